-- How much all callers together have in flight at a moment of a phase.
use Rattle.std.specs.Prelude.{◌≡◌, ℕ, ◌≤◌, ◌||◌, Bool, false, ℤ, pos, List, [], ◌∷◌, length, Option, Some, None}
use Rattle.std.specs.Prelude.{if◌then◌else◌, nat_eq}
use Rattle.vms_calls.specs.declared.page_calls.PageCall.{PageCall}
use Rattle.vms_calls.specs.declared.page_calls.PageCall.TheVariants.{Bury}
use Rattle.vms_core.specs.Pages.{History}
use Rattle.vms_file_order.specs.Common.{MakeInAnyOrder}
use Rattle.vms_near.specs.CallFlight.{folds_cpu, most_in_flight}
use Rattle.vms_near.specs.InFlight.{in_flight, is_dead}
use Rattle.vms_truth.specs.PhaseTransit.{most_of_acts}
use Rattle.vms_world.specs.Common.{Act, Control, Cpu, CpuId, Extends, Header, IsCounter, Item, Lane, TableHistories}
use Rattle.vms_world.specs.Common.{ZoneSize, acts_of, count_below, cpu_at, facts_of, is_lane, lane_at, lanes_of}
use Rattle.vms_world.specs.Common.{owner_of, page_call}
use Rattle.vms_world.specs.declared.worlds.World.{World}

-- the call of an act folds CPU c
abbrev pub folds : CpuId → Option PageCall → Bool
folds c None = false
folds c (Some call) = folds_cpu c call

-- a line of another lane than this one folds CPU c
abbrev pub folded_beside : Lane → CpuId → List Item → Bool
folded_beside lane c [] = false
folded_beside lane c (item ∷ items) = if is_lane item.lane lane then folded_beside lane c items
    else (folds c (page_call item.lane item.act) || folded_beside lane c items)

-- a line of another lane folds the CPU of a lane
abbrev pub is_taken_beside : Lane → List Item → Bool
is_taken_beside (Cpu c) items = folded_beside (Cpu c) c items
is_taken_beside Control items = false

-- one of these acts of the control lane buries CPU c
abbrev pub buries : CpuId → Option PageCall → Bool
buries c (Some (Bury d)) = nat_eq d.number c.number
buries c _ = false

abbrev pub buried_among : CpuId → List Act → Bool
buried_among c [] = false
buried_among c (a ∷ acts) = buries c (page_call Control a) || buried_among c acts

-- CPU c is dead when the phase begins, and none of its lines buries it
abbrev pub stays_dead : World → List Item → CpuId → Bool
stays_dead w items c = if buried_among c (acts_of Control items) then false else is_dead (cpu_at w.pages c.number)

-- the most that a call of a lane has in flight of counter k in a phase of these lines
abbrev pub most_of_lane : (ℤ → ℕ) → World → List Item → (k : ℕ) → Lane → PageCall → ℕ
most_of_lane part w items k lane call =
    most_in_flight part (owner_of lane) (is_taken_beside lane items) (stays_dead w items) call k

-- and for all lanes together, since each is inside one call at most
abbrev pub most_of_phase : (ℤ → ℕ) → World → List Item → (k : ℕ) → List Lane → ℕ
most_of_phase part w items k lanes =
    count_below (λ n. most_of_acts (most_of_lane part w items k (lane_at lanes n)) (lane_at lanes n)
    (acts_of (lane_at lanes n) items)) (length lanes)

-- at a moment of a phase the callers have at most that in flight of each counter, by any measure of a change that is 0
-- where nothing changes: for each lane with lines the most that one of its calls has. That is the size of a change of
-- the counter, and 62 pages more where a line of another lane folds the lane's CPU; 125 pages for a fold of another
-- lane's CPU; and nothing for a fold of the lane's own CPU or of one that stays dead
abbrev pub FlyLittle : Header → World → List Item → History → Type 0
FlyLittle header w lines h = (part : ℤ → ℕ) → part (pos 0) ≡ 0 → (k : ℕ) → IsCounter header.layout k →
    in_flight part (facts_of header w.pages) h k ≤ most_of_phase part w lines k (lanes_of header.layout lines)

-- at each moment of a phase
abbrev pub AlwaysFlyLittle : Header → World → List Item → TableHistories → Type 0
AlwaysFlyLittle header w lines hs = (h : History) → Extends hs.pages h → FlyLittle header w lines h

abbrev pub PhasesFlyLittle : (pressure normal : ZoneSize → ℕ → ℕ → Type 0) → Type 0
PhasesFlyLittle pressure normal = (header : Header) (w : World) (lines : List Item) (hs : TableHistories) →
    MakeInAnyOrder header pressure normal w lines hs → AlwaysFlyLittle header w lines hs
