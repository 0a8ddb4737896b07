-- The lines so far are printed, and each other one that asks has its value.
use Rattle.std.proofs.Common.{◌≡◌, ◌+◌, ◌++◌, drop, length}
use Rattle.vms_groups.specs.GroupWaits.{asked_in, written_from}
use Rattle.vms_groups.proofs.waits.write_waits.Given as goal

abbrev pub invariant-loop-wait : goal.invariant-loop-wait
invariant-loop-wait l = record {
  printed : l.out.items ++ written_from l.values l.next (drop l.wait-index l.waits)
      ≡ l.initial.out.items ++ written_from l.values 0 l.waits;
  left : l.next + asked_in (drop l.wait-index l.waits) ≡ length l.values;
}
