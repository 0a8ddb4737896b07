-- What a test of a zone's free pages tells of them, with a snapshot and without.
use Rattle.std.specs.Prelude.{◌≡◌, ℕ, ◌<◌, ◌≤◌, Bool, true, false, ℤ, ◌∷◌}
use Rattle.vms_calls.specs.Common.{Extends, Facts, History, LoadG, LoadM, MarkRead, MarkStands, PlaceId, Shape}
use Rattle.vms_calls.specs.Common.{at_least_zero, counter_at, free_pages, size_at}
use Rattle.vms_core.specs.Pages.{IsLegal}
use Rattle.vms_near.specs.Near.{TellsNearly}
use Rattle.vms_near.specs.Slack.{IsTold, slack_of}
use Rattle.vms_near.specs.Snapshots.{SumsNearly}

-- between these histories caller p loaded the free pages of zone g between two loads of the zone's mark, which told the
-- same mark with the same number; `moment` is the history before the load of the free pages
pub record LoadsBetween (shape : Shape) (later earlier : History) (p : ℕ) (g : PlaceId) (mark : MarkRead) (value : ℤ)
    (moment : History) : Type 0 where
  -- the histories before the first and before the second load of the mark
  pub first : History
  pub last : History
  pub begins : Extends first earlier
  pub marks : Extends moment (record { caller = p; step = LoadM g mark.mark mark.number } ∷ first)
  pub loads : Extends last (record { caller = p; step = LoadG (free_pages shape g) value } ∷ moment)
  pub marks_again : Extends later (record { caller = p; step = LoadM g mark.mark mark.number } ∷ last)

-- what a test that takes no snapshot tells of zone g, whether it answers yes or no: so many free pages, which it loaded
-- at a moment when the mark stood that it loaded before and again after. Under a mark they aren't below it. They tell
-- the zone's true free pages at that moment, as near as the CPUs can hide and as is in flight, and but for the slack of
-- the zone under that mark.
pub record TellsTruly (facts : Facts) (later earlier : History) (p : ℕ) (g : PlaceId) (free : ℕ) : Type 0 where
  pub mark : MarkRead
  pub value : ℤ
  pub moment : History
  pub between : LoadsBetween facts.layout later earlier p g mark value moment
  pub told : free ≡ at_least_zero value
  pub legal : IsLegal facts moment
  pub stands : MarkStands facts moment g.number mark.mark mark.number
  pub above : 0 < mark.mark → mark.mark ≤ free
  pub near : IsTold facts moment (counter_at facts.layout g.number 0) free
      (slack_of (size_at facts.sizes g.number) mark.mark)
  pub nearly : TellsNearly facts moment (counter_at facts.layout g.number 0) value

-- what the free pages tell on which a test rests: those of the value alone, or those of a snapshot
abbrev pub FreeIsTrue : Facts → (later earlier : History) → ℕ → PlaceId → (free : ℕ) → (fast : Bool) → Type 0
FreeIsTrue facts later earlier p g free true = TellsTruly facts later earlier p g free
FreeIsTrue facts later earlier p g free false = SumsNearly facts later earlier p (free_pages facts.layout g) free
