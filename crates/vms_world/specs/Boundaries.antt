-- What the boundaries between phases make of a world.
use Rattle.std.specs.Prelude.{◌≡◌, ◌≢◌, ℕ, if◌then◌else◌, nat_eq, ℤ, pos, ◌+ℤ◌, List}
use Rattle.vms_calls.specs.Common.{Header, Online as IsOnline, Dead, Absent, ZoneSize, is_online, Shape, IsCpu}
use Rattle.vms_calls.specs.Common.{counter_count, item_count, item_of, sum_below, State, cpu_at, diff_at, system_at}
use Rattle.vms_calls.specs.Common.{value_at, with_cpu}
use Rattle.vms_text.specs.declared.acts.Boundary.{Boundary}
use Rattle.vms_text.specs.declared.acts.Boundary.TheVariants.{Offline, Online, Flush}
use Rattle.vms_world.specs.declared.worlds.World.{World}
use Rattle.vms_world.specs.Listed.{listed, listed_by_cpu}
use Rattle.vms_world.specs.Refreshes.{AreAnswers, count_online, refreshed}

-- CPU c goes offline: it is dead, and all that it has, hides and may use stays
abbrev pub taken_down : ℕ → World → World
taken_down c w = record w { pages = with_cpu w.pages c Dead }

-- CPU c comes online, and a refresh gives all online CPUs these thresholds of the zones
abbrev pub brought_up : Header → List ℕ → ℕ → World → World
brought_up header zones c w = record w { pages = refreshed header zones (with_cpu w.pages c IsOnline) }

-- the differential of CPU c for counter k that a flush folds: only online CPUs are folded
abbrev pub folded_at : State → ℕ → ℕ → ℤ
folded_at s c k = if is_online (cpu_at s c) then diff_at s c k else pos 0

abbrev pub folded_of : Shape → State → ℕ → ℤ
folded_of shape s k = sum_below (λ c. folded_at s c k) shape.cpus

abbrev pub folded_of_item : Shape → State → ℕ → ℤ
folded_of_item shape s i =
    sum_below (λ k. if nat_eq (item_of shape k) i then folded_of shape s k else pos 0) (counter_count shape)

-- the differentials of all online CPUs move to the global values and to the system-wide ones; thresholds and marks stay
abbrev pub flushed_pages : Shape → State → State
flushed_pages shape s = record s {
  place = listed (λ k. value_at s k +ℤ folded_of shape s k) (counter_count shape);
  system = listed (λ i. system_at s i +ℤ folded_of_item shape s i) (item_count shape);
  diff = listed_by_cpu (λ c k. if is_online (cpu_at s c) then pos 0 else diff_at s c k) shape.cpus
      (counter_count shape);
}

abbrev pub flushed : Shape → World → World
flushed shape w = record w { pages = flushed_pages shape w.pages }

-- where a boundary may stand: a CPU that goes offline is online and not the only one, and one that comes online is
-- absent
abbrev pub MayCross : Shape → State → Boundary → Type 0
MayCross shape s (Offline c) = IsCpu shape c.number × (cpu_at s c.number ≡ IsOnline)
    × ((d : ℕ) × (d ≢ c.number) × IsCpu shape d × (cpu_at s d ≡ IsOnline))
MayCross shape s (Online c) = IsCpu shape c.number × (cpu_at s c.number ≡ Absent)
MayCross shape s _ = Unit {0}

-- a boundary leads from one world to another, where a rule gives the zones their thresholds
abbrev pub Crosses : Header → (ZoneSize → ℕ → ℕ → Type 0) → Boundary → World → World → Type 0
Crosses header answers (Offline c) w w' = w' ≡ taken_down c.number w
Crosses header answers (Online c) w w' = (zones : List ℕ)
    × AreAnswers header answers (count_online (with_cpu w.pages c.number IsOnline).cpu) zones
    × (w' ≡ brought_up header zones c.number w)
Crosses header answers Flush w w' = w' ≡ flushed header.layout w
Crosses header answers _ w w' = w' ≡ w
