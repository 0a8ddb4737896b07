use Rattle.std.proofs.Common.{◌≡◌, ℕ, ◌<◌, ◌≤◌, length, get_or}
use Rattle.vms_calls.specs.Common.{most_threshold, numbers_below, IsControl}
use Rattle.vms_calls.specs.declared.choices.Rating.TheVariants.{Refresh}
use Rattle.vms_control.proofs.VisitedZones.{Visited}
use Rattle.vms_control.proofs.refreshing.visit_all.Given as goal

-- the zones so far were visited, and the first visit told that the pass is the control pass
abbrev pub invariant-loop-zone : goal.invariant-loop-zone
invariant-loop-zone g l = record {
  visited : Visited l.table l.fn.pass (g.P.Rule.answers l.rules.pressure) (g.N.Rule.answers l.rules.normal) Refresh
      l.online (numbers_below l.zone) l.thresholds.items l.zone l.pass;
  control : 0 < l.zone → IsControl l.fn.pass.seen l.fn.pass.number;
  length : length l.thresholds.items ≡ l.zone;
  least : (n : ℕ) → n < l.zone → 1 ≤ get_or l.thresholds.items n 0;
  most : (n : ℕ) → n < l.zone → get_or l.thresholds.items n 0 ≤ most_threshold;
}
