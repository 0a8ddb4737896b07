-- How much all callers together carry at a moment of a phase.
use Rattle.std.specs.Prelude.{ℕ, ◌≤◌, max, List, [], ◌∷◌, length, Option, Some, None}
use Rattle.vms_core.specs.Drift.{carried_of_item_sizes, carried_sizes}
use Rattle.vms_core.specs.Pages.{History}
use Rattle.vms_drift.specs.Transit.{most_carried, most_carried_of_item}
use Rattle.vms_file_order.specs.Common.{MakeInAnyOrder}
use Rattle.vms_world.specs.Common.{Act, Extends, Header, Item, Lane, TableHistories, ZoneSize, acts_of, count_below}
use Rattle.vms_world.specs.Common.{lane_at, lanes_of, page_call}
use Rattle.vms_calls.specs.declared.page_calls.PageCall.{PageCall}
use Rattle.vms_world.specs.declared.worlds.World.{World}

-- a measure of the call that an act makes on the page counters, 0 where it makes none
abbrev pub of_call : (PageCall → ℕ) → Option PageCall → ℕ
of_call measure None = 0
of_call measure (Some call) = measure call

-- the most that it comes to among these acts of a lane
abbrev pub most_of_acts : (PageCall → ℕ) → Lane → List Act → ℕ
most_of_acts measure lane [] = 0
most_of_acts measure lane (a ∷ acts) = max (of_call measure (page_call lane a)) (most_of_acts measure lane acts)

-- and for all lanes of a phase together, since each is inside one call at most
abbrev pub most_of_lanes : (PageCall → ℕ) → List Lane → List Item → ℕ
most_of_lanes measure lanes items =
    count_below (λ n. most_of_acts measure (lane_at lanes n) (acts_of (lane_at lanes n) items)) (length lanes)

-- at a moment of a phase the callers carry at most that of each counter and each item: for each lane with lines the
-- most that one of its calls carries, which is 125 pages for a fold or a burial, and its size and 187 for a change of
-- the counter
pub record CarryLittle (header : Header) (lines : List Item) (h : History) : Type 0 where
  pub counters : (k : ℕ) →
      carried_sizes h k ≤ most_of_lanes (λ call. most_carried call k) (lanes_of header.layout lines) lines
  pub items : (i : ℕ) → carried_of_item_sizes header.layout h i
      ≤ most_of_lanes (λ call. most_carried_of_item header.layout call i) (lanes_of header.layout lines) lines

-- at each moment of a phase
abbrev pub AlwaysCarryLittle : Header → List Item → TableHistories → Type 0
AlwaysCarryLittle header lines hs = (h : History) → Extends hs.pages h → CarryLittle header lines h

abbrev pub PhasesCarryLittle : (pressure normal : ZoneSize → ℕ → ℕ → Type 0) → Type 0
PhasesCarryLittle pressure normal = (header : Header) (w : World) (lines : List Item) (hs : TableHistories) →
    MakeInAnyOrder header pressure normal w lines hs → AlwaysCarryLittle header lines hs
