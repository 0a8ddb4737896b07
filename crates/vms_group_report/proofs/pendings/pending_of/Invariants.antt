-- What is pending from the children and from the CPUs so far.
use Rattle.std.proofs.Common.{◌≡◌, ◌+◌, ◌*◌, ◌≤◌, ◌^◌, ◌+ℤ◌, unsigned_abs}
use Rattle.vms_group_core.specs.Common.{pending_at, up_at}
use Rattle.vms_history.specs.Common.{sum_below}
use Rattle.vms_group_report.proofs.pendings.pending_of.Given as goal

abbrev pub invariant-loop-cpu : goal.invariant-loop-cpu
invariant-loop-cpu l = record {
  total : l.sum ≡ sum_below (λ c. pending_at l.tree l.words c l.group) l.cpu +ℤ up_at l.words l.group;
  bound : unsigned_abs l.sum ≤ (l.cpu + 1) * 2 ^ 63;
}
