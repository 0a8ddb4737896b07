-- How far the numbers that a report prints of a world are from what the world adds up to.
use Rattle.std.specs.Prelude.{◌≡◌, ℕ, ◌*◌, ◌<◌, ◌≤◌, nat_eq, ℤ, pos, ◌+ℤ◌, ◌-ℤ◌, List, [], ◌∷◌, All, length, count_by}
use Rattle.std.specs.Prelude.{if◌then◌else◌, map, slice_index_or, unsigned_abs}
use Rattle.vms_drift.specs.Nearness.{IsNear}
use Rattle.vms_drift.specs.PresentCpus.{most_hidden, parts_of}
use Rattle.vms_truth.specs.EventTruth.{held_by_dead}
use Rattle.vms_truth.specs.Slack.{slack_of}
use Rattle.vms_world.specs.Common.{Between, GivesThresholds, Header, IsCounter, IsDeclared, IsEvent, IsItem, IsWorldOf}
use Rattle.vms_world.specs.Common.{IsZone, Phase, Segment, SegmentsLead, TableHistories, ZoneSize, count_at}
use Rattle.vms_world.specs.Common.{count_below, counter_count, differentials, is_present, item_of, locals, mark_at}
use Rattle.vms_world.specs.Common.{online_from, place_of, size_at, sum_below, sum_of_words, sum_over, system_at}
use Rattle.vms_world.specs.Common.{value_at}
use Rattle.vms_world.specs.declared.worlds.World.{World}

-- the slack of zone g in a world, under the mark that stands there
abbrev pub slack_in : Header → World → ℕ → ℕ
slack_in header w g = slack_of (size_at header.sizes g) (mark_at w.pages g)

-- what counter k adds up to: its global value, with what each CPU has not folded
abbrev pub total_in : Header → World → ℕ → ℤ
total_in header w k = value_at w.pages k +ℤ differentials header.layout w.pages k

-- and the counters of item i together
abbrev pub total_of_item_in : Header → World → ℕ → ℤ
total_of_item_in header w i =
    sum_below (λ k. if nat_eq (item_of header.layout k) i then total_in header w k else pos 0)
    (counter_count header.layout)

-- what percpu counter j adds up to: its shared part, with the local parts of all CPUs
abbrev pub total_of_percpu_in : Header → World → ℕ → ℤ
total_of_percpu_in header w j = count_at w.counters j +ℤ locals header.layout w.counters j

-- the batch that the header declares for percpu counter j
abbrev pub batch_of : Header → ℕ → ℕ
batch_of header j = slice_index_or (map (λ decl. decl.batch) header.counters) j 0

-- of event k `report vmstat` counts what the words of all CPUs come to, less what dead CPUs hold
abbrev pub IsTotalWithoutDead : Header → World → ℕ → Type 0
IsTotalWithoutDead header w k = pos (sum_over w.events k (online_from 0 w.pages.cpu))
    ≡ sum_of_words header.layout w.events k -ℤ held_by_dead header.layout w.pages.cpu w.events k

-- the count that `report counters` prints of percpu counter j is off from what the counter adds up to by at most a
-- batch for each CPU that is present
abbrev pub IsNearByBatches : Header → World → ℕ → Type 0
IsNearByBatches header w j = unsigned_abs (count_at w.counters j -ℤ total_of_percpu_in header w j)
    ≤ batch_of header j * count_by is_present w.pages.cpu

-- no caller carries anything between two phases. The value of each counter is near what the counter adds up to, by 125
-- pages for each CPU that is present; that of a zone's counter by the slack of the zone. A system-wide value is near
-- what the counters of its item add up to, by so much for each of them; that of an item of zones by the slack of all
-- zones. The number of an event is what the event adds up to, but for dead CPUs, and the count of a percpu counter is
-- near what the counter adds up to.
pub record NumbersAreNear (header : Header) (w : World) : Type 0 where
  pub counters : (k : ℕ) → IsCounter header.layout k →
      IsNear (value_at w.pages k) (total_in header w k) (most_hidden header.layout w.pages)
  pub of_zones : (k : ℕ) → IsCounter header.layout k → IsZone header.layout (place_of header.layout k) →
      IsNear (value_at w.pages k) (total_in header w k) (slack_in header w (place_of header.layout k))
  pub items : (i : ℕ) → IsItem header.layout i → IsNear (system_at w.pages i) (total_of_item_in header w i)
      (parts_of header.layout i * most_hidden header.layout w.pages)
  pub zone_items : (i : ℕ) → i < header.layout.positions →
      IsNear (system_at w.pages i) (total_of_item_in header w i)
      (count_below (slack_in header w) (length header.layout.zones))
  pub events : (k : ℕ) → IsEvent k → IsTotalWithoutDead header w k
  pub percpu : (j : ℕ) → IsDeclared header j → IsNearByBatches header w j

-- the worlds on a way through segments: the one that stands before each, and the last
abbrev pub worlds_on : (header : Header) (pressure normal : ZoneSize → ℕ → ℕ → Type 0) (segments : List Segment)
    (hss : List TableHistories) (w last : World) → SegmentsLead header pressure normal segments hss w last → List World
worlds_on header pressure normal [] hss w last way = w ∷ []
worlds_on header pressure normal (Phase items ∷ segments) [] w last way = w ∷ []
worlds_on header pressure normal (Phase items ∷ segments) (hs ∷ more) w last (next, is, way) =
    w ∷ worlds_on header pressure normal segments more next last way
worlds_on header pressure normal (Between n b ∷ segments) hss w last (next, may, crosses, way) =
    w ∷ worlds_on header pressure normal segments hss next last way

-- from a world of the header on, every world is one of the header
abbrev pub WaysKeepWorlds : (pressure normal : ZoneSize → ℕ → ℕ → Type 0) → Type 0
WaysKeepWorlds pressure normal = (header : Header) (segments : List Segment) (hss : List TableHistories)
    (w last : World) → GivesThresholds normal → IsWorldOf header w →
    (way : SegmentsLead header pressure normal segments hss w last) →
    All (IsWorldOf header) (worlds_on header pressure normal segments hss w last way)

-- and the numbers are near in every one of them, and so in every one that a report tells
abbrev pub WaysStayNear : (pressure normal : ZoneSize → ℕ → ℕ → Type 0) → Type 0
WaysStayNear pressure normal = (header : Header) (segments : List Segment) (hss : List TableHistories)
    (w last : World) → GivesThresholds normal → IsWorldOf header w →
    (way : SegmentsLead header pressure normal segments hss w last) →
    All (NumbersAreNear header) (worlds_on header pressure normal segments hss w last way)
