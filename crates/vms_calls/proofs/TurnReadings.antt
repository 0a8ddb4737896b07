-- For other crates too: the steps of a test of a zone for an order, of a balance test and of a turn tell their answers.
use Rattle.std.proofs.Common.{◌≡◌, ℕ, suc, zero, Bool, true, false, nat_eq, if◌then◌else◌, List, ◌∷◌, ◌++◌, Option}
use Rattle.std.proofs.Common.{None, is_some, refl, sym, ap, ◌∙◌, append_assoc, ne_eqb}
use Rattle.vms_history.specs.Common.{Header, PlaceId, WaterMark, High, ZoneSize, Area, areas_of, areas_from, Shape}
use Rattle.vms_history.specs.Common.{limit_of, after}
use Rattle.vms_core.specs.declared.states.State.{State}
use Rattle.vms_core.specs.declared.steps.Step.{Step}
use Rattle.vms_core.specs.Common.{History}
use Rattle.vms_calls.specs.Common.{facts_of, read_snapshot, ByNormal, ByPressure, node_number, TellsOrderTest}
use Rattle.vms_calls.specs.Common.{TellsBalance, TellsTurn, SettlesOnline, block_or, read_blocks, without_blocks}
use Rattle.vms_calls.specs.Common.{with_blocks, read_areas, read_order_test, passed_or, read_zones, read_balance}
use Rattle.vms_calls.specs.Common.{settled_read, read_turn, FindsBlock, Further, LooksForBlock, Balances, SetsAfterYes}
use Rattle.vms_calls.specs.Common.{blocks_at, has_room, zones_up_to, nowhere, empty, some, no_zone, fails, passes}
use Rattle.vms_calls.specs.declared.answers.Verdict.{Verdict}
use Rattle.vms_calls.specs.declared.answers.OrderVerdict.{OrderVerdict}
use Rattle.vms_calls.specs.declared.answers.Balance.{Balance}
use Rattle.vms_calls.specs.declared.answers.Balance.TheVariants.{Yes, No}
use Rattle.vms_calls.proofs.LookReadings.{snapshot-told, test-told}
use Rattle.vms_calls.proofs.RatingReadings.{node-told}

module _ (shape : Shape) (g : PlaceId) where
  blocks-told : (areas : List Area) (steps : List Step) (found : Option ℕ) → FindsBlock shape g areas steps found
      → (rest : List Step) → read_blocks shape g areas (steps ++ rest) ≡ (found, rest)
  blocks-told areas steps found nowhere rest = refl
  blocks-told areas steps found (empty area areas' first more found' snapshot later) rest =
      ap (λ ks. block_or area.order (read_snapshot shape (blocks_at shape g area) ks) (read_blocks shape g areas'))
      (append_assoc first more rest)
      ∙ ap (λ (told : ℕ × List Step). block_or area.order told (read_blocks shape g areas'))
      (snapshot-told shape (blocks_at shape g area) first 0 snapshot (more ++ rest))
      ∙ blocks-told areas' more found' later rest
  blocks-told areas steps found (some area areas' steps' blocks snapshot there) rest =
      ap (λ (told : ℕ × List Step). block_or area.order told (read_blocks shape g areas'))
      (snapshot-told shape (blocks_at shape g area) steps' blocks snapshot rest)
      ∙ (let differ : nat_eq blocks 0 ≡ false = ne_eqb blocks 0 there in rw differ refl)

  abbrev made : List Step → Bool → ℕ → Bool → Option ℕ → OrderVerdict × List Step
  made rest y f q a = (record { yes = y; free = f; fast = q; area = a }, rest)

  verdict-same : (answer : OrderVerdict) (y : Bool) (f : ℕ) (q : Bool) (a : Option ℕ) (rest : List Step)
      → answer.yes ≡ y → answer.free ≡ f → answer.fast ≡ q → answer.area ≡ a → made rest y f q a ≡ (answer, rest)
  verdict-same answer y f q a rest same_yes same_free same_fast same_area =
      ap (λ y. made rest y f q a) (sym same_yes) ∙ ap (λ f. made rest answer.yes f q a) (sym same_free)
      ∙ ap (λ q. made rest answer.yes answer.free q a) (sym same_fast)
      ∙ ap (λ a. made rest answer.yes answer.free answer.fast a) (sym same_area)

-- what a test of a watermark leaves to a test for an order, in a header's zone
module _ (header : Header) (g : PlaceId) (mark : WaterMark) (most : ℕ) (verdict : Verdict) (answer : OrderVerdict)
    (free : answer.free ≡ verdict.free) (fast : answer.fast ≡ verdict.fast) (rest : List Step) where
  blocks-read : (n : ℕ) (room : Bool) (steps : List Step) → LooksForBlock header g n room steps answer
      → (if room
      then with_blocks verdict (read_blocks header.layout g (areas_from n (areas_of header.items)) (steps ++ rest))
      else without_blocks false verdict (steps ++ rest))
      ≡ (answer, rest)
  blocks-read n true steps blocks =
      ap (with_blocks verdict)
      (blocks-told header.layout g (areas_from n (areas_of header.items)) steps answer.area blocks.0 rest)
      ∙ verdict-same header.layout g answer (is_some answer.area) verdict.free verdict.fast answer.area rest
      blocks.1 free fast refl
  blocks-read n false steps blocks =
      ap (λ ks. without_blocks false verdict (ks ++ rest)) blocks.0
      ∙ verdict-same header.layout g answer false verdict.free verdict.fast None rest blocks.1 free fast blocks.2

  further-told : (order : ℕ) (steps : List Step) → Further header g mark most order verdict steps answer
      → read_areas header g mark most order (verdict, steps ++ rest) ≡ (answer, rest)
  further-told zero steps blocks =
      ap (λ ks. without_blocks verdict.yes verdict (ks ++ rest)) blocks.0
      ∙ verdict-same header.layout g answer verdict.yes verdict.free verdict.fast None rest blocks.1 free fast blocks.2
  further-told (suc n) steps blocks =
      blocks-read (suc n) (has_room (limit_of header g.number mark most) (suc n) verdict.free) steps blocks

pub order_test-told : TellsOrderTest
order_test-told header g mark most order steps answer call rest =
    ap (λ ks. read_order_test header g mark most order (ks ++ rest)) call.in_order
    ∙ ap (λ ks. read_order_test header g mark most order ks) (append_assoc call.test call.further rest)
    ∙ ap (λ (told : Verdict × List Step). read_areas header g mark most order told)
    (test-told header g mark most call.test call.verdict call.tests (call.further ++ rest))
    ∙ further-told header g mark most call.verdict answer call.free call.fast rest order call.further call.blocks

zones-told : (header : Header) (most order : ℕ) (gs : List ℕ) (steps : List Step) (answer : Balance)
    → Balances header most order gs steps answer → (rest : List Step)
    → read_zones header most order gs (steps ++ rest) ≡ (answer, rest)
zones-told header most order gs steps answer no_zone rest = refl
zones-told header most order gs steps answer (fails g gs' first more verdict answer' test failed later) rest =
    ap (λ ks. read_zones header most order (g ∷ gs') ks) (append_assoc first more rest)
    ∙ ap (λ (told : OrderVerdict × List Step). passed_or g told (read_zones header most order gs'))
    (order_test-told header (record { number = g }) High most order first verdict test (more ++ rest))
    ∙ (rw failed (zones-told header most order gs' more answer' later rest))
zones-told header most order gs steps answer (passes g gs' steps' verdict test passed) rest =
    ap (λ (told : OrderVerdict × List Step). passed_or g told (read_zones header most order gs'))
    (order_test-told header (record { number = g }) High most order steps' verdict test rest)
    ∙ (rw passed refl)

pub balance-told : TellsBalance
balance-told header n order most steps answer call rest =
    zones-told header most order (zones_up_to header.layout most (node_number header.layout n)) steps answer call rest

module _ (header : Header) (base : State) (normal : ZoneSize → ℕ → ℕ → Type 0) (n : PlaceId) (p : ℕ) where
  settled-told : (answer : Balance) (h : History) (steps : List Step)
      (settles : SetsAfterYes (facts_of header base) normal n p answer h steps)
      → SettlesOnline (facts_of header base) normal n p answer h steps settles
      → (rest : List Step) → settled_read header n (answer, steps ++ rest) ≡ (answer, rest)
  settled-told (Yes g verdict) h steps settles found rest =
      ap (λ (told : Unit {0} × List Step). (Yes g verdict, told.1))
      (node-told (ByNormal normal) (facts_of header base) n p h steps settles found rest)
  settled-told No h steps settles found rest = ap (λ ks. (No, ks ++ rest)) settles

pub turn-told : (pressure normal : ZoneSize → ℕ → ℕ → Type 0) → TellsTurn pressure normal
turn-told pressure normal header base n order most p h steps answer turn some_first some_last rest =
    let parts : steps ++ rest ≡ turn.pressed ++ (turn.test ++ (turn.further ++ rest)) =
    ap (λ ks. ks ++ rest) turn.in_order ∙ append_assoc turn.pressed (turn.test ++ turn.further) rest
    ∙ ap (λ ks. turn.pressed ++ ks) (append_assoc turn.test turn.further rest) in
    ap (read_turn header n order most) parts
    ∙ ap (λ (told : Unit {0} × List Step). settled_read header n (read_balance header n order most told.1))
    (node-told (ByPressure pressure normal) (facts_of header base) n p h turn.pressed turn.presses some_first
    (turn.test ++ (turn.further ++ rest)))
    ∙ ap (settled_read header n) (balance-told header n order most turn.test answer turn.tests (turn.further ++ rest))
    ∙ settled-told header base normal n p answer (after p (turn.pressed ++ turn.test) h)
    turn.further turn.settles some_last rest
