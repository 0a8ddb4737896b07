-- The drift marks that a call of the control pass leaves, once it is made.
use Rattle.std.specs.Prelude.{◌≡◌, ◌≢◌, ℕ, List}
use Rattle.vms_calls.specs.Common.{ByNormal, Choice, Facts, IsZone, PlaceId, Step, ZoneSize, mark_at, node_number}
use Rattle.vms_calls.specs.Common.{node_of_zone, pages, state_after}
use Rattle.vms_drift.specs.LeftMarks.{FindsNewest, SettlesMark}
use Rattle.vms_seats.specs.Common.{Made, Pass}

-- the pass made steps that leave the mark of each zone of node n that had one, where they found each CPU's newest
-- threshold of the zone acknowledged
abbrev pub SettlesNode : Facts → Choice → PlaceId → Pass Facts Step → Pass Facts Step → Type 0
SettlesNode facts Chooses n new old = (steps : List Step) × Made pages new old steps
    × ((g : ℕ) → IsZone facts.layout g → node_of_zone facts.layout g ≡ node_number facts.layout n
    → mark_at (state_after facts old.seen) g ≢ 0 → FindsNewest facts old.seen g steps
    → SettlesMark Chooses facts new.seen old.seen g)

-- the same of each zone, whether it had a mark or not
abbrev pub SettlesAll : Facts → (ZoneSize → ℕ → ℕ → Type 0) → Pass Facts Step → Pass Facts Step → Type 0
SettlesAll facts normal new old = (steps : List Step) × Made pages new old steps
    × ((g : ℕ) → IsZone facts.layout g → FindsNewest facts old.seen g steps
    → SettlesMark (ByNormal normal) facts new.seen old.seen g)
