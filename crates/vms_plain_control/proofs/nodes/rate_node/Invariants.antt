use Rattle.std.proofs.Common.{ℕ, ◌<◌, ◌≤◌, List}
use Rattle.vms_calls.specs.Common.{HasShape, IsNode, IsZone, choice_of}
use Rattle.vms_plain_control.specs.Common.{KeepsThresholds, KeepsZone, MakesPart, HasAllPeaks, RatesZoneOn, SetsOnce}
use Rattle.vms_plain_control.specs.Common.{SetsOnly}
use Rattle.vms_calls.proofs.Common.{zones_so_far}
use Rattle.vms_plain_control.proofs.Calls.{Visited}
use Rattle.vms_plain_control.proofs.nodes.rate_node.Given as goal

-- the node's zones so far are visited
abbrev pub invariant-loop-zone : goal.invariant-loop-zone
invariant-loop-zone g l = record {
  makes : (ts : List ℕ) × MakesPart l.header
      (Visited l.header (g.P.Rule.answers l.rules.pressure) (g.N.Rule.answers l.rules.normal) l.rating
      l.initial.pages.cpu (zones_so_far l.header.layout l.number l.zone) ts)
      l.initial.pages l.initial.peaks l.pages l.peaks;
  zones : (f : ℕ) → f < l.zone → RatesZoneOn l.header
      (choice_of l.rating (g.P.Rule.answers l.rules.pressure) (g.N.Rule.answers l.rules.normal)) l.number f
      l.initial.pages l.initial.peaks l.pages l.peaks;
  left : (f : ℕ) → l.zone ≤ f → IsZone l.header.layout f →
      KeepsZone l.header.layout f l.initial.pages l.initial.peaks l.pages l.peaks;
  nodes : (f : ℕ) → IsNode l.header.layout f → KeepsThresholds l.header.layout f l.initial.pages l.pages;
  rest : SetsOnly l.initial.pages l.pages;
  once : SetsOnce l.header.layout 0 l.zone l.initial.pages l.pages;
  shaped : HasShape l.header.layout l.pages;
  full : HasAllPeaks l.header.layout l.peaks;
}
