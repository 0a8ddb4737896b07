use Rattle.std.proofs.Common.{◌≡◌, ◌≤◌, ◌+◌, ◌*◌, pos, ◌+ℤ◌}
use Rattle.std.specs.Prelude.{◌^◌}
use Rattle.vms_history.specs.Common.{sum_below}
use Rattle.vms_group_core.specs.Common.{pending_at, size_of, up_at}
use Rattle.vms_group_registers.proofs.bases.pending.Given as goal

abbrev pub invariant-loop-cpu : goal.invariant-loop-cpu
invariant-loop-cpu l = record {
  value : pos l.sum
      ≡ sum_below (λ c. size_of (pending_at l.facts.tree l.facts.base c l.group)) l.cpu
      +ℤ size_of (up_at l.facts.base l.group);
  most : l.sum ≤ (l.cpu + 1) * (2 ^ 63);
}
