-- What the steps of a test for an order, of a balance test and of a turn of kswapd tell of the answer.
use Rattle.std.specs.Prelude.{◌≡◌, ℕ, suc, zero, nat_eq, Bool, false, List, [], ◌∷◌, ◌++◌, if◌then◌else◌, Option, Some}
use Rattle.std.specs.Prelude.{None, is_some}
use Rattle.vms_history.specs.Common.{Header, PlaceId, WaterMark, High, ZoneSize, Area, areas_of, areas_from, Shape}
use Rattle.vms_history.specs.Common.{limit_of, after}
use Rattle.vms_core.specs.declared.states.State.{State}
use Rattle.vms_core.specs.declared.steps.Facts.{Facts}
use Rattle.vms_core.specs.declared.steps.Step.{Step}
use Rattle.vms_core.specs.Common.{History}
use Rattle.vms_calls.specs.HeaderFacts.{facts_of}
use Rattle.vms_calls.specs.LookReadings.{read_snapshot, read_test}
use Rattle.vms_calls.specs.declared.answers.Verdict.{Verdict}
use Rattle.vms_calls.specs.RatingReadings.{SomeOnline, read_node_rating}
use Rattle.vms_calls.specs.Ratings.{node_number}
use Rattle.vms_calls.specs.declared.answers.OrderVerdict.{OrderVerdict}
use Rattle.vms_calls.specs.declared.answers.Balance.{Balance}
use Rattle.vms_calls.specs.Turns.{IsOrderTest, IsBalanceTest, IsTurn, SetsAfterYes, blocks_at, has_room, zones_up_to}
use Rattle.vms_calls.specs.declared.answers.Balance.TheVariants.{Yes, No}

-- the order of the first area whose snapshot isn't 0
abbrev pub block_or : ℕ → ℕ × List Step → (List Step → Option ℕ × List Step) → Option ℕ × List Step
block_or order (blocks, rest) more = if nat_eq blocks 0 then more rest else (Some order, rest)

abbrev pub read_blocks : Shape → PlaceId → List Area → List Step → Option ℕ × List Step
read_blocks shape g [] steps = (None, steps)
read_blocks shape g (area ∷ areas) steps =
    block_or area.order (read_snapshot shape (blocks_at shape g area) steps) (read_blocks shape g areas)

-- the answer of a test of a zone for an order
abbrev pub with_blocks : Verdict → Option ℕ × List Step → OrderVerdict × List Step
with_blocks verdict (area, rest) =
    (record { yes = is_some area; free = verdict.free; fast = verdict.fast; area = area }, rest)

abbrev pub without_blocks : Bool → Verdict → List Step → OrderVerdict × List Step
without_blocks passed verdict rest =
    (record { yes = passed; free = verdict.free; fast = verdict.fast; area = None }, rest)

abbrev pub read_areas : Header → PlaceId → WaterMark → (most order : ℕ) → Verdict × List Step
    → OrderVerdict × List Step
read_areas header g mark most zero (verdict, rest) = without_blocks verdict.yes verdict rest
read_areas header g mark most (suc n) (verdict, rest) =
    if has_room (limit_of header g.number mark most) (suc n) verdict.free
    then with_blocks verdict (read_blocks header.layout g (areas_from (suc n) (areas_of header.items)) rest)
    else without_blocks false verdict rest

abbrev pub read_order_test : Header → PlaceId → WaterMark → (most order : ℕ) → List Step → OrderVerdict × List Step
read_order_test header g mark most order steps =
    read_areas header g mark most order (read_test header g mark most steps)

-- the answer of a balance test of these zones
abbrev pub passed_or : ℕ → OrderVerdict × List Step → (List Step → Balance × List Step) → Balance × List Step
passed_or g (verdict, rest) more = if verdict.yes then (Yes (record { number = g }) verdict, rest) else more rest

abbrev pub read_zones : Header → (most order : ℕ) → List ℕ → List Step → Balance × List Step
read_zones header most order [] steps = (No, steps)
read_zones header most order (g ∷ gs) steps =
    passed_or g (read_order_test header (record { number = g }) High most order steps)
    (read_zones header most order gs)

abbrev pub read_balance : Header → PlaceId → (order most : ℕ) → List Step → Balance × List Step
read_balance header n order most steps =
    read_zones header most order (zones_up_to header.layout most (node_number header.layout n)) steps

-- the answer of a turn
abbrev pub settled_read : Header → PlaceId → Balance × List Step → Balance × List Step
settled_read header n (Yes g verdict, rest) = (Yes g verdict, (read_node_rating header.layout n rest).1)
settled_read header n (No, rest) = (No, rest)

abbrev pub read_turn : Header → PlaceId → (order most : ℕ) → List Step → Balance × List Step
read_turn header n order most steps =
    settled_read header n (read_balance header n order most (read_node_rating header.layout n steps).1)

-- the call that follows the balance test of a turn, where there is one, found a CPU online
abbrev pub SettlesOnline : (facts : Facts) (normal : ZoneSize → ℕ → ℕ → Type 0) (n : PlaceId) (p : ℕ) (answer : Balance)
    (h : History) (steps : List Step) → SetsAfterYes facts normal n p answer h steps → Type 0
SettlesOnline facts normal n p (Yes g verdict) h steps rates = SomeOnline rates.states
SettlesOnline facts normal n p No h steps none = Unit {0}

-- the steps of a test of a zone, of a balance test and of a turn tell the answer, whatever follows them
abbrev pub TellsOrderTest : Type 0
TellsOrderTest = (header : Header) (g : PlaceId) (mark : WaterMark) (most order : ℕ) (steps : List Step)
    (answer : OrderVerdict) → IsOrderTest header g mark most order steps answer
    → (rest : List Step) → read_order_test header g mark most order (steps ++ rest) ≡ (answer, rest)

abbrev pub TellsBalance : Type 0
TellsBalance = (header : Header) (n : PlaceId) (order most : ℕ) (steps : List Step)
    (answer : Balance) → IsBalanceTest header n order most steps answer
    → (rest : List Step) → read_balance header n order most (steps ++ rest) ≡ (answer, rest)

abbrev pub TellsTurn : (pressure normal : ZoneSize → ℕ → ℕ → Type 0) → Type 0
TellsTurn pressure normal = (header : Header) (base : State) (n : PlaceId) (order most p : ℕ) (h : History)
    (steps : List Step) (answer : Balance) (turn : IsTurn header base pressure normal n order most p h steps answer)
    → SomeOnline turn.presses.states
    → SettlesOnline (facts_of header base) normal n p answer (after p (turn.pressed ++ turn.test) h) turn.further
    turn.settles
    → (rest : List Step) → read_turn header n order most (steps ++ rest) ≡ (answer, rest)
