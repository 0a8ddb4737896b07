use Rattle.std.proofs.Common.{◌≡◌, ℕ, ◌≤◌, ◌<◌, length, get_or}
use Rattle.vms_world.specs.Common.{most_threshold, size_at}
use Rattle.vms_hotplug.proofs.settings.zone_thresholds.Given as goal

-- each threshold so far is one that the rule answers
abbrev pub invariant-loop-size : goal.invariant-loop-size
invariant-loop-size g l = record {
  length : length l.thresholds.items ≡ l.size-index;
  by_rule : (n : ℕ) → n < l.size-index →
      g.N.Rule.answers l.rules.normal (size_at l.sizes n) l.online (get_or l.thresholds.items n 0);
  least : (n : ℕ) → n < l.size-index → 1 ≤ get_or l.thresholds.items n 0;
  most : (n : ℕ) → n < l.size-index → get_or l.thresholds.items n 0 ≤ most_threshold;
}
