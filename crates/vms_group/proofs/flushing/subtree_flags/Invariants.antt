use Rattle.std.proofs.Common.{◌≡◌, ℕ, ◌<◌, false, get_or, length}
use Rattle.vms_group_core.specs.Common.{in_subtree}
use Rattle.vms_group.proofs.flushing.subtree_flags.Given as goal

abbrev pub invariant-loop-number : goal.invariant-loop-number
invariant-loop-number l = record {
  long : length l.flags ≡ 64;
  each : (k : ℕ) → k < l.number → get_or l.flags k false ≡ in_subtree l.tree l.group k;
}
