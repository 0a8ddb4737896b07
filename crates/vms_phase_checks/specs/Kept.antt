-- Page events that keep to the lines of a phase.
use Rattle.std.specs.Prelude.{◌≡◌, ℕ, ◌≤◌, true, false, List, Option}
use Rattle.vms_world.specs.Common.{Header, CpuId, ZoneSize, State, Start, Item, Fits, MakesActs, PageSteps, acts_of}
use Rattle.vms_world.specs.Common.{Lane, begun_in, facts_of, is_among, lanes_of, lives_in, owner_in, owner_of}
use Rattle.vms_script.specs.Starts.{IsWithin}
use Rattle.vms_core.specs.Pages.{History, IsLegal}
use Rattle.vms_core.specs.Steps.{role}
use Rattle.vms_written.specs.Common.{GoesAlong}
use Rattle.vms_phase_checks.specs.Slots.{lane_for}

module _ (header : Header) (pressure normal : ZoneSize → ℕ → ℕ → Type 0) (s : State) (items : List Item) where
  -- pass q, which owns a CPU or none, goes along the acts of its lane
  abbrev pub GoesAlongLane : Option CpuId → ℕ → History → Type 0
  GoesAlongLane who q h =
      GoesAlong (PageSteps header s pressure normal (lane_for who) q) q (acts_of (lane_for who) items) h

  -- it has made them all
  abbrev pub HasMadeLane : Option CpuId → ℕ → History → Type 0
  HasMadeLane who q h =
      MakesActs (PageSteps header s pressure normal (lane_for who) q) q (acts_of (lane_for who) items) h

  -- the events are legal, and each pass that began is of a lane with lines, which has no other pass, and goes along the
  -- acts of its lane; one that has ended has made them all
  pub record KeepsToLines (h : History) : Type 0 where
    pub legal : IsLegal (facts_of header s) h
    pub among : (q : ℕ) → 1 ≤ q → q ≤ begun_in role h
        → is_among (lane_for (owner_in role h q)) (lanes_of header.layout items) ≡ true
    pub apart : (q r : ℕ) → 1 ≤ q → q ≤ begun_in role h → 1 ≤ r → r ≤ begun_in role h
        → owner_in role h q ≡ owner_in role h r → q ≡ r
    pub along : (q : ℕ) → 1 ≤ q → q ≤ begun_in role h → GoesAlongLane (owner_in role h q) q h
    pub ended : (q : ℕ) → 1 ≤ q → q ≤ begun_in role h → lives_in role h q ≡ false
        → HasMadeLane (owner_in role h q) q h

-- each lane with lines has had its pass, and every pass has ended
pub record AreOver (header : Header) (items : List Item) (h : History) : Type 0 where
  pub begun : (lane : Lane) → is_among lane (lanes_of header.layout items) ≡ true
      → (q : ℕ) × (1 ≤ q) × (q ≤ begun_in role h) × (owner_in role h q ≡ owner_of lane)
  pub ended : (q : ℕ) → lives_in role h q ≡ false

-- the lines fit some start
pub record FitsSomewhere (header : Header) (items : List Item) : Type 0 where
  pub start : Start
  pub fits : Fits header start items
  pub within : IsWithin start
