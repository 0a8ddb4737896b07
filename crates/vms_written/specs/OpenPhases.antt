-- A phase of a written history of which only the first events are known.
use Rattle.std.specs.Prelude.{◌≡◌, ℕ, ◌≤◌, true, List, ◌∷◌, ◌++◌}
use Rattle.vms_world.specs.Common.{Header, ZoneSize, Event, after, begun_in, own, owner_in, State, Act, Item, Lane}
use Rattle.vms_world.specs.Common.{MakesActs, PageSteps, acts_of, facts_of, is_among, lanes_of, owner_of}
use Rattle.vms_core.specs.Pages.{History, IsLegal}
use Rattle.vms_core.specs.Steps.{role}

-- caller p has made the first of these acts, and nothing else, or stands within the next one: it has made the first
-- steps of it, and there are steps that end it
module _ {K : Type 0} (makes : Act → List (Event K) → List K → Type 0) (p : ℕ) where
  pub data GoesAlong (acts : List Act) (h : List (Event K)) : Type 0 where
    between : (made left : List Act) → acts ≡ made ++ left → MakesActs makes p made h → GoesAlong acts h
    within : (made left : List Act) (next : Act) (before more : List (Event K)) (begun due : List K)
        → acts ≡ made ++ next ∷ left → h ≡ more ++ before → MakesActs makes p made before
        → makes next before (begun ++ due) → own h p ≡ after p begun (own before p) → GoesAlong acts h

-- these page events begin a phase of these lines from this state: they are legal, and each pass that began is of a lane
-- with lines and goes along its acts
pub record BeginsWrittenPhase (header : Header) (pressure normal : ZoneSize → ℕ → ℕ → Type 0) (s : State)
    (items : List Item) (h : History) : Type 0 where
  pub legal : IsLegal (facts_of header s) h
  pub lane : ℕ → Lane
  pub among : (q : ℕ) → 1 ≤ q → q ≤ begun_in role h → is_among (lane q) (lanes_of header.layout items) ≡ true
  pub owners : (q : ℕ) → 1 ≤ q → q ≤ begun_in role h → owner_in role h q ≡ owner_of (lane q)
  -- no lane has two passes
  pub apart : (q r : ℕ) → 1 ≤ q → q ≤ begun_in role h → 1 ≤ r → r ≤ begun_in role h → lane q ≡ lane r → q ≡ r
  pub lines : (q : ℕ) → 1 ≤ q → q ≤ begun_in role h
      → GoesAlong (PageSteps header s pressure normal (lane q) q) q (acts_of (lane q) items) h
