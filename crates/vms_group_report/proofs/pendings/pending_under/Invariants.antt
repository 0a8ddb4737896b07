-- The sum over the groups so far.
use Rattle.std.proofs.Common.{◌≡◌, ◌*◌, ◌≤◌, ◌^◌, pos, unsigned_abs, if◌then◌else◌}
use Rattle.vms_group_core.specs.Common.{as_is, in_subtree, pending_of}
use Rattle.vms_history.specs.Common.{sum_below}
use Rattle.vms_group_report.proofs.pendings.pending_under.Given as goal

abbrev pub invariant-loop-number : goal.invariant-loop-number
invariant-loop-number l = record {
  total : l.sum
      ≡ sum_below (λ x. if in_subtree l.tree l.group x then pending_of as_is l.tree l.words x else pos 0) l.number;
  bound : unsigned_abs l.sum ≤ l.number * (65 * 2 ^ 63);
}
