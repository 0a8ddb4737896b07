use Rattle.std.proofs.Common.{◌≡◌, ◌-◌, ◌≤◌, List, length, drop}
use Rattle.vms_world.specs.Common.{Segment}
use Rattle.vms_core.specs.Pages.{History}
use Rattle.vms_history_checks.specs.Bounds.{bounds_of, scripts_of}
use Rattle.vms_history_checks.specs.Leads.{HasLed}
use Rattle.vms_history_checks.proofs.checks.HistoryCheck.cross_all.Given as goal

-- the boundary lines so far are crossed
abbrev pub invariant-loop-crossed : goal.invariant-loop-crossed
invariant-loop-crossed g l = record {
  within : l.crossed ≤ length l.self.bounds.items;
  led : (segments : List Segment) (hs : List History) (left : List Segment)
      → HasLed l.header g.W.LaneWalk.pressure g.W.LaneWalk.normal segments hs left l.initial.pages
      → drop l.self.crossed l.self.bounds.items ≡ bounds_of l.self.begun left → (next : List Segment)
      × HasLed l.header g.W.LaneWalk.pressure g.W.LaneWalk.normal segments hs next l.pages
      × (drop l.crossed l.self.bounds.items ≡ bounds_of l.self.begun next) × (scripts_of next ≡ scripts_of left);
}

abbrev pub decreases-loop-crossed : goal.decreases-loop-crossed
decreases-loop-crossed g l = length l.self.bounds.items - l.crossed
