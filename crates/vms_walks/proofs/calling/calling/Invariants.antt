-- The acts so far make no call.
use Rattle.vms_walks.specs.Calling.{MakeNoCall}
use Rattle.vms_walks.proofs.calling.calling.Given as goal

abbrev pub invariant-loop-at : goal.invariant-loop-at
invariant-loop-at l = MakeNoCall l.lane l.acts l.fn.from l.at
