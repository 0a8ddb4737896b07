-- For other crates too: a phase whose lanes' passes began in order is a written phase.
use Rattle.std.proofs.Common.{◌≡◌, ℕ, suc, ◌-◌, ◌≤◌, true, List, sym, ap, subst, ◌∙◌, arith}
use Rattle.vms_world.specs.Common.{Header, ZoneSize, Event, Role, Act, Item, Lane, HasLanes, MakesActs, MakesLines}
use Rattle.vms_world.specs.Common.{PageSteps, State, acts_of, begun_in, facts_of, is_among, lane_at, lanes_of, owner_in}
use Rattle.vms_world.specs.Common.{owner_of}
use Rattle.vms_core.specs.Pages.{History, IsComplete}
use Rattle.vms_core.specs.Steps.{role}
use Rattle.vms_file_order.specs.Common.{StandOnce, pass_of}
use Rattle.vms_file_order.proofs.Common.{HasPlace-among, StandOnce-lanes, pass_of-lane_at}
use Rattle.vms_file_order.proofs.LaneLists.{IsPlace}
use Rattle.vms_written.specs.Common.{HasPassEach, IsWrittenPhase}

module _ {K : Type 0} (role : K → Role) (lanes : List Lane) (once : StandOnce lanes) (h : List (Event K))
    (has : HasLanes role lanes h) where
  -- the pass of a lane by its place among them
  pub HasPassEach-of_lanes : HasPassEach role lanes h (pass_of lanes)
  HasPassEach-of_lanes = record {
    least = λ lane among. let at = HasPlace-among lanes lane among in omega (arith, at.number);
    most = λ lane among.
        let at = HasPlace-among lanes lane among in omega (arith, at.number, at.below, has.one_each);
    owners = λ lane among.
        let at = HasPlace-among lanes lane among in
        ap (owner_in role h) at.number ∙ has.owners at.place at.below ∙ ap owner_of at.there;
    lane = λ q. lane_at lanes (q - 1);
    among = λ q least most. (at_place q least most).among;
    numbered = λ q least most. (at_place q least most).number ∙ omega arith;
  }
    where
      at_place : (q : ℕ) → 1 ≤ q → q ≤ begun_in role h → IsPlace lanes (q - 1)
      at_place q least most = pass_of-lane_at lanes (q - 1) once (omega (arith, least, most, has.one_each))

  -- and it has made the acts of its lane
  module _ (makes : Lane → ℕ → Act → List (Event K) → List K → Type 0) (items : List Item)
      (lines : MakesLines makes lanes items h) where
    pub MakesActs-of_lane : (lane : Lane) → is_among lane lanes ≡ true
        → MakesActs (makes lane (pass_of lanes lane)) (pass_of lanes lane) (acts_of lane items) h
    MakesActs-of_lane lane among =
        let at = HasPlace-among lanes lane among in
        subst (λ (q : ℕ). MakesActs (makes lane q) q (acts_of lane items) h) (sym at.number)
        (subst (λ (l : Lane). MakesActs (makes l (suc at.place)) (suc at.place) (acts_of l items) h) at.there
        (lines at.place at.below))

module _ (header : Header) (pressure normal : ZoneSize → ℕ → ℕ → Type 0) (s : State) (items : List Item) (h : History)
  where
    pub IsWrittenPhase-of_lanes : IsComplete (facts_of header s) h → HasLanes role (lanes_of header.layout items) h
        → MakesLines (PageSteps header s pressure normal) (lanes_of header.layout items) items h
        → IsWrittenPhase header pressure normal s items h
    IsWrittenPhase-of_lanes complete has lines = record {
      complete = complete;
      pass = pass_of (lanes_of header.layout items);
      passes = HasPassEach-of_lanes role (lanes_of header.layout items) (StandOnce-lanes header.layout items) h has;
      lines = MakesActs-of_lane role (lanes_of header.layout items) (StandOnce-lanes header.layout items) h has
          (PageSteps header s pressure normal) items lines;
    }
