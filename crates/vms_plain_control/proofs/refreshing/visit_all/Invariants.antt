use Rattle.std.proofs.Common.{◌≡◌, ℕ, ◌<◌, ◌≤◌, length, get_or}
use Rattle.vms_calls.specs.Common.{ByNormal, IsNode, IsZone, most_threshold, HasShape, numbers_below}
use Rattle.vms_calls.specs.declared.choices.Rating.TheVariants.{Refresh}
use Rattle.vms_plain_control.specs.Common.{KeepsThresholds, KeepsZone, MakesPart, HasAllPeaks, RatesZone, SetsOnce}
use Rattle.vms_plain_control.specs.Common.{SetsOnly}
use Rattle.vms_plain_control.proofs.Calls.{Visited}
use Rattle.vms_plain_control.proofs.refreshing.visit_all.Given as goal

-- the zones so far are visited
abbrev pub invariant-loop-zone : goal.invariant-loop-zone
invariant-loop-zone g l = record {
  makes : MakesPart l.header
      (Visited l.header (g.P.Rule.answers l.rules.pressure) (g.N.Rule.answers l.rules.normal) Refresh
      l.initial.pages.cpu (numbers_below l.zone) l.thresholds.items)
      l.initial.pages l.initial.peaks l.pages l.peaks;
  length : length l.thresholds.items ≡ l.zone;
  least : (n : ℕ) → n < l.zone → 1 ≤ get_or l.thresholds.items n 0;
  most : (n : ℕ) → n < l.zone → get_or l.thresholds.items n 0 ≤ most_threshold;
  zones : (f : ℕ) → f < l.zone → RatesZone l.header (ByNormal (g.N.Rule.answers l.rules.normal)) f
      (get_or l.thresholds.items f 0) l.initial.pages l.initial.peaks l.pages l.peaks;
  left : (f : ℕ) → l.zone ≤ f → IsZone l.header.layout f →
      KeepsZone l.header.layout f l.initial.pages l.initial.peaks l.pages l.peaks;
  nodes : (f : ℕ) → IsNode l.header.layout f → KeepsThresholds l.header.layout f l.initial.pages l.pages;
  rest : SetsOnly l.initial.pages l.pages;
  once : SetsOnce l.header.layout 0 l.zone l.initial.pages l.pages;
  shaped : HasShape l.header.layout l.pages;
  full : HasAllPeaks l.header.layout l.peaks;
}
