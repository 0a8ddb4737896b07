-- Which thresholds a turn of kswapd leaves, and what its calls and its balance test find.
use Rattle.std.specs.Prelude.{◌≡◌, ◌≢◌, ℕ, ◌<◌, ◌≤◌, nat_eq, ◌&&◌, true, List, [], ◌∷◌, ◌++◌, length, All, AllPairs}
use Rattle.std.specs.Prelude.{Contains, if◌then◌else◌, Option, Some, None}
use Rattle.vms_history.specs.Common.{Header, ItemDecl, CpuId, PlaceId, CpuState, ZoneSize, areas_of, areas_from}
use Rattle.vms_history.specs.Common.{online_from, Shape, size_at, after}
use Rattle.vms_core.specs.declared.states.State.{State}
use Rattle.vms_core.specs.declared.steps.Step.{Step}
use Rattle.vms_core.specs.declared.steps.Step.TheVariants.{LoadM, SetT}
use Rattle.vms_core.specs.Common.{History}
use Rattle.vms_calls.specs.HeaderFacts.{facts_of}
use Rattle.vms_calls.specs.MayMake.{HasMade}
use Rattle.vms_calls.specs.RatingReadings.{SomeOnline}
use Rattle.vms_calls.specs.Ratings.{node_number}
use Rattle.vms_calls.specs.TurnReadings.{SettlesOnline}
use Rattle.vms_calls.specs.declared.answers.OrderVerdict.{OrderVerdict}
use Rattle.vms_calls.specs.declared.answers.Balance.{Balance}
use Rattle.vms_calls.specs.Turns.{IsBalanceTest, IsTurn, zones_up_to}
use Rattle.vms_calls.specs.declared.answers.Balance.TheVariants.{Yes, No}

-- the areas for blocks of an order and larger: each is of a smaller order than every later one, and none is of a
-- smaller order than was asked for
abbrev pub AreasAscend : Type 0
AreasAscend = (order : ℕ) (items : List ItemDecl) →
    AllPairs (λ a b. a.order < b.order) (areas_from order (areas_of items))
    × All (λ a. order ≤ a.order) (areas_from order (areas_of items))

-- the mark of zone g that the steps load last, and the threshold of CPU c in place g that they set last
abbrev pub last_mark : ℕ → List Step → ℕ → ℕ
last_mark g [] before = before
last_mark g (LoadM f m a ∷ steps) before = last_mark g steps (if nat_eq f.number g then m else before)
last_mark g (_ ∷ steps) before = last_mark g steps before

abbrev pub last_set : ℕ → ℕ → List Step → Option ℕ → Option ℕ
last_set c g [] before = before
last_set c g (SetT d f t ∷ steps) before =
    last_set c g steps (if nat_eq d.number c && nat_eq f.number g then Some t else before)
last_set c g (_ ∷ steps) before = last_set c g steps before

-- the threshold that a rule gives zone g stands last among the steps, on CPU c
pub record HasByRule (sizes : List ZoneSize) (rule : ZoneSize → ℕ → ℕ → Type 0) (online c g : ℕ) (steps : List Step)
    : Type 0 where
  pub t : ℕ
  pub by_rule : rule (size_at sizes g) online t
  pub last : last_set c g steps None ≡ Some t

-- in each zone whose mark the call found not 0 the steps leave, on each CPU that it found online, a threshold of the
-- rule
abbrev pub LeavesByRule : (sizes : List ZoneSize) (rule : ZoneSize → ℕ → ℕ → Type 0) (states : List CpuState)
    (call steps : List Step) → Type 0
LeavesByRule sizes rule states call steps = (g : ℕ) (c : CpuId) → last_mark g call 0 ≢ 0 →
    Contains (online_from 0 states) c → HasByRule sizes rule (length (online_from 0 states)) c.number g steps

-- after yes a turn leaves thresholds of the normal rule
abbrev pub LeavesNormal : (pressure normal : ZoneSize → ℕ → ℕ → Type 0) → Type 0
LeavesNormal pressure normal = (header : Header) (base : State) (n : PlaceId) (order most p : ℕ) (h : History)
    (steps : List Step) (g : PlaceId) (verdict : OrderVerdict)
    (turn : IsTurn header base pressure normal n order most p h steps (Yes g verdict))
    → LeavesByRule header.sizes normal turn.settles.states turn.further steps

-- after no a turn leaves thresholds of the pressure rule
abbrev pub LeavesPressure : (pressure normal : ZoneSize → ℕ → ℕ → Type 0) → Type 0
LeavesPressure pressure normal = (header : Header) (base : State) (n : PlaceId) (order most p : ℕ) (h : History)
    (steps : List Step) (turn : IsTurn header base pressure normal n order most p h steps No)
    → LeavesByRule header.sizes pressure turn.presses.states turn.pressed steps

-- in a legal history the calls of a turn find a CPU online
abbrev pub TurnFindsOnline : (pressure normal : ZoneSize → ℕ → ℕ → Type 0) → Type 0
TurnFindsOnline pressure normal = (header : Header) (base : State) (n : PlaceId) (order most p : ℕ) (later h : History)
    (steps : List Step) (answer : Balance)
    (turn : IsTurn header base pressure normal n order most p h steps answer) →
    HasMade (facts_of header base) later h p steps → SomeOnline turn.presses.states
    × SettlesOnline (facts_of header base) normal n p answer (after p (turn.pressed ++ turn.test) h) turn.further
    turn.settles

-- a zone that passed for an order: the answer is yes, and above order 0 a free block as large was found
pub record PassesForOrder (shape : Shape) (n : PlaceId) (order most : ℕ) (g : PlaceId) (verdict : OrderVerdict)
    : Type 0 where
  pub one_of : Contains (zones_up_to shape most (node_number shape n)) g.number
  pub passed : verdict.yes ≡ true
  pub block : order ≢ 0 → (o : ℕ) × (verdict.area ≡ Some o) × (order ≤ o)

-- a balance test names a zone of the node that passed
abbrev pub BalanceNamesZone : Type 0
BalanceNamesZone = (header : Header) (n : PlaceId) (order most : ℕ) (steps : List Step) (g : PlaceId)
    (verdict : OrderVerdict) → IsBalanceTest header n order most steps (Yes g verdict) →
    PassesForOrder header.layout n order most g verdict
