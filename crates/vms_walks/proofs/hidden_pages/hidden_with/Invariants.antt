-- The sum so far is that of the CPUs before this one.
use Rattle.std.proofs.Common.{◌≡◌, ◌*◌, ◌^◌, ◌≤◌}
use Rattle.vms_world.specs.Common.{Facts, count_below}
use Rattle.vms_core.specs.Pages.{History, IsLegal}
use Rattle.vms_walks.proofs.RaisedPeaks.{part_in}
use Rattle.vms_walks.proofs.hidden_pages.hidden_with.Given as goal

abbrev pub invariant-loop-number : goal.invariant-loop-number
invariant-loop-number g l = ((facts : Facts) (h : History) → facts.layout ≡ l.layout → IsLegal facts h
    → g.K.ZonePeaks.Keeps l.peaks facts h
    → l.sum ≡ count_below (part_in facts 0 l.zone.number l.threshold l.online.flags h) l.number)
    × (l.sum ≤ l.number * 2 ^ 32)
