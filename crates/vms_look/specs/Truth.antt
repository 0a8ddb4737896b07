-- What is true of a counter where its value is told, and where it stands above a mark.
use Rattle.std.specs.Prelude.{◌≡◌, ℕ, suc, ◌+◌, ◌<◌, ◌≤◌, ℤ, pos, ◌+ℤ◌, ◌≤ℤ◌, ◌++◌}
use Rattle.vms_calls.specs.Common.{CounterId, ItemId, PlaceId, IsZone, counter_at, gap_of, size_at, at_least_zero}
use Rattle.vms_calls.specs.Common.{MarkRead, Facts, Step, mark_at, value_at, negative_carried, MarkStands, History}
use Rattle.vms_calls.specs.Common.{state_after, true_total}
use Rattle.vms_core.specs.Pages.{IsLegal}
use Rattle.vms_near.specs.Loads.{LoadsNearly, SystemLoadsNearly}
use Rattle.vms_near.specs.Tests as tests
use Rattle.vms_near.specs.Tests.{LoadsBetween}
use Rattle.vms_seats.specs.Common.{Pass}

-- the true total of counter k is at least so many pages, less `hidden` and less the negative amounts that callers carry
abbrev pub HasTruly : Facts → History → ℕ → ℕ → ℕ → Type 0
HasTruly facts h k least hidden = pos least ≤ℤ (true_total facts h k +ℤ pos (hidden + negative_carried h k))

-- the free pages of zone g, as their value tells them
abbrev pub free_value : Facts → History → ℕ → ℕ
free_value facts h g = at_least_zero (value_at (state_after facts h) (counter_at facts.layout g 0))

-- where a zone has a mark and its value isn't below it, the zone truly has `high` free pages
abbrev pub MarksKeepHigh : Type 0
MarksKeepHigh = (facts : Facts) (h : History) (g : ℕ) → IsLegal facts h → IsZone facts.layout g →
    0 < mark_at (state_after facts h) g → mark_at (state_after facts h) g ≤ free_value facts h g →
    HasTruly facts h (counter_at facts.layout g 0) (size_at facts.sizes g).high 0

-- where a zone has no mark and its value exceeds a limit, the zone truly has more free pages than the limit, less the
-- pages between `min` and `low`
abbrev pub NoMarksKeepLimit : Type 0
NoMarksKeepLimit = (facts : Facts) (h : History) (g limit : ℕ) → IsLegal facts h → IsZone facts.layout g →
    mark_at (state_after facts h) g ≡ 0 → limit < free_value facts h g →
    HasTruly facts h (counter_at facts.layout g 0) (suc limit) (gap_of (size_at facts.sizes g))

-- what a test that takes no snapshot tells of zone g, whether it answers yes or no, between what the pass had seen and
-- what it has seen then
abbrev pub TellsTruly : (new old : Pass Facts Step) → PlaceId → (free : ℕ) → Type 0
TellsTruly new old g free = tests.TellsTruly old.facts new.seen old.seen old.number g free

-- what a test that answers yes without a snapshot says of zone g, where its free pages exceed a limit. The mark that it
-- loaded before and again after stood at the moment of its load of the free pages. If that mark isn't 0, the zone truly
-- had at least `high` free pages then; if it is 0, more than the limit, less the pages between `min` and `low`. In both
-- cases less the negative amounts that callers carried at that moment.
pub record SaysTruly (new old : Pass Facts Step) (g : PlaceId) (limit : ℕ) : Type 0 where
  pub mark : MarkRead
  pub value : ℤ
  pub moment : History
  pub between : LoadsBetween old.facts.layout new.seen old.seen old.number g mark value moment
  pub legal : IsLegal old.facts moment
  pub stands : MarkStands old.facts moment g.number mark.mark mark.number
  pub marked : 0 < mark.mark →
      HasTruly old.facts moment (counter_at old.facts.layout g.number 0) (size_at old.facts.sizes g.number).high 0
  pub unmarked : mark.mark ≡ 0 → HasTruly old.facts moment (counter_at old.facts.layout g.number 0) (suc limit)
      (gap_of (size_at old.facts.sizes g.number))

-- between what the pass had seen and what it has seen then it loaded the value of counter k, and was told so many pages
abbrev pub LoadsTruly : (new old : Pass Facts Step) → CounterId → (told : ℕ) → Type 0
LoadsTruly new old k told = LoadsNearly old.facts new.seen old.seen old.number k told

-- or the system-wide value of item i
abbrev pub SystemLoadsTruly : (new old : Pass Facts Step) → ItemId → (told : ℕ) → Type 0
SystemLoadsTruly new old i told = SystemLoadsNearly old.facts new.seen old.seen old.number i told

-- a fact of every moment that a pass has seen
abbrev pub AtEachMoment : Pass Facts Step → (Facts → History → Type 0) → Type 0
AtEachMoment pass Holds = (since h : History) → pass.seen ≡ since ++ h → Holds pass.facts h
