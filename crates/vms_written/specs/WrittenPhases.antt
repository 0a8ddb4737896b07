-- A phase of a written history: page events that anyone wrote, and when they are those of the phase's lines.
use Rattle.std.specs.Prelude.{◌≡◌, ℕ, ◌≤◌, true, List}
use Rattle.vms_world.specs.Common.{Header, ZoneSize, Event, Role, begun_in, owner_in, State, Item, Lane, MakesActs}
use Rattle.vms_world.specs.Common.{PageSteps, acts_of, facts_of, is_among, lanes_of, owner_of}
use Rattle.vms_core.specs.Pages.{History, IsComplete}
use Rattle.vms_core.specs.Steps.{role}

-- the number of the pass of each lane with lines: it began and owns the lane's CPU. No other pass began; which lane's
-- began first is left open
pub record HasPassEach {K : Type 0} (role : K → Role) (lanes : List Lane) (h : List (Event K)) (pass : Lane → ℕ)
    : Type 0 where
  pub least : (lane : Lane) → is_among lane lanes ≡ true → 1 ≤ pass lane
  pub most : (lane : Lane) → is_among lane lanes ≡ true → pass lane ≤ begun_in role h
  pub owners : (lane : Lane) → is_among lane lanes ≡ true → owner_in role h (pass lane) ≡ owner_of lane
  -- whose the pass of a number is
  pub lane : ℕ → Lane
  pub among : (q : ℕ) → 1 ≤ q → q ≤ begun_in role h → is_among (lane q) lanes ≡ true
  pub numbered : (q : ℕ) → 1 ≤ q → q ≤ begun_in role h → pass (lane q) ≡ q

-- these page events are a phase of these lines from this state: they are legal, every pass has ended, and the own
-- events of each lane's pass are the steps of the lane's lines, in order
pub record IsWrittenPhase (header : Header) (pressure normal : ZoneSize → ℕ → ℕ → Type 0) (s : State)
    (items : List Item) (h : History) : Type 0 where
  pub complete : IsComplete (facts_of header s) h
  pub pass : Lane → ℕ
  pub passes : HasPassEach role (lanes_of header.layout items) h pass
  pub lines : (lane : Lane) → is_among lane (lanes_of header.layout items) ≡ true
      → MakesActs (PageSteps header s pressure normal lane (pass lane)) (pass lane) (acts_of lane items) h
