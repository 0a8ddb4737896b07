use Rattle.std.proofs.Common.{◌≡◌, ◌++◌, [], drop}
use Rattle.vms_world.specs.Common.{Header}
use Rattle.vms_replay.specs.Common.{written}
use Rattle.vms_replay.proofs.printers.write_refusals.Given as goal

abbrev pub invariant-loop-index : goal.invariant-loop-index
invariant-loop-index l = (header : Header)
    → l.out.items ++ written header (drop l.index l.waits) []
    ≡ l.initial.out.items ++ written header (drop l.fn.next l.waits) []
