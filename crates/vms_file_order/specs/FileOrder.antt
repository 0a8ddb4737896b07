-- The histories of a phase in file order: the lanes' passes begin, the lines follow one another, the passes end.
use Rattle.std.specs.Prelude.{◌≡◌, ◌≢◌, ℕ, true, List, [], ◌∷◌, ◌++◌, All}
use Rattle.vms_world.specs.Common.{Shape, Event, after, own, Machine, Role, lives_in, owner_in, GoesOnTo, Act, Item}
use Rattle.vms_world.specs.Common.{Lane, is_among, lanes_of, owner_of}
use Rattle.vms_history.specs.Legal.{IsLegal, state_after}
use Rattle.vms_file_order.specs.LanePasses.{PassSteps, closing_of, opening_of, pass_of}

-- `makes` says which steps an act may make, by a pass of a lane, where it begins in a history; `IsAlone` what each step
-- is of a caller that meets no other
module _ {K : Type 0} {role : K → Role} (passes : PassSteps K role)
    (makes : Lane → ℕ → Act → List (Event K) → List K → Type 0) (IsAlone : K → Type 0) where
  -- these lines follow one another after the opening of these lanes: each is of one of the lanes, and its steps, in
  -- which its caller meets no other, are made by the lane's pass
  pub data Follow (lanes : List Lane) : List Item → List (Event K) → Type 0 where
    none : Follow lanes [] (opening_of passes lanes)
    line : (items : List Item) (next : Item) (h : List (Event K)) (steps : List K) → Follow lanes items h
        → is_among next.lane lanes ≡ true → makes next.lane (pass_of lanes next.lane) next.act h steps
        → All IsAlone steps → Follow lanes (items ++ next ∷ []) (after (pass_of lanes next.lane) steps h)

  -- the history of these lines in file order: a pass begins for each lane that has lines, the first under number 1, the
  -- lines follow one another, and the passes end
  pub record IsFileOrder (shape : Shape) (items : List Item) (h : List (Event K)) : Type 0 where
    pub lines : List (Event K)
    pub follow : Follow (lanes_of shape items) items lines
    pub ends : h ≡ closing_of passes (lanes_of shape items) lines

-- a history that stands with a state while the passes of these lanes live: it is legal, the main pass has made their
-- opening alone, and every other pass may end
pub record StandsOpen {F K S : Type 0} (machine : Machine F K S) (passes : PassSteps K machine.role) (facts : F)
    (lanes : List Lane) (h : List (Event K)) (now : S) : Type 0 where
  pub legal : IsLegal machine facts h
  pub main : own h 0 ≡ opening_of passes lanes
  pub may_end : (q : ℕ) → q ≢ 0 → machine.MayEnd facts (own h q)
  pub state : state_after machine facts h ≡ now

-- the pass of a lane lives, and owns the CPU of the lane
pub record HasPass {K : Type 0} (role : K → Role) (lanes : List Lane) (h : List (Event K)) (lane : Lane) : Type 0 where
  pub other_than_main : pass_of lanes lane ≢ 0
  pub lives : lives_in role h (pass_of lanes lane) ≡ true
  pub owner : owner_in role h (pass_of lanes lane) ≡ owner_of lane

-- a line goes on from a history to a state: its lane's pass makes its steps, in which it meets no other caller, and may
-- end after them
pub record GoesOnWithLine {F K S : Type 0} (machine : Machine F K S)
    (makes : Lane → ℕ → Act → List (Event K) → List K → Type 0) (IsAlone : K → Type 0) (facts : F) (lanes : List Lane)
    (item : Item) (h : List (Event K)) (next : S) : Type 0 where
  pub steps : List K
  pub making : makes item.lane (pass_of lanes item.lane) item.act h steps
  pub alone : All IsAlone steps
  pub goes_on : GoesOnTo machine facts (pass_of lanes item.lane) steps h next
  pub may_end : machine.MayEnd facts (own (after (pass_of lanes item.lane) steps h) (pass_of lanes item.lane))
