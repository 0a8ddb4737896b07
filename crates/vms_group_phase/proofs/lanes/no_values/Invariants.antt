-- So many so far.
use Rattle.std.proofs.Common.{◌≡◌, length}
use Rattle.vms_group_phase.proofs.lanes.no_values.Given as goal

abbrev pub invariant-loop : goal.invariant-loop
invariant-loop l = length l.values.items ≡ l.counter
