-- A balance test names a zone that passed, and above order 0 a free block as large as was asked for.
use Rattle.std.proofs.Common.{◌≡◌, ◌≢◌, ℕ, suc, zero, ◌≤◌, Bool, true, false, true≢false, nat_le, List, ◌∷◌, Option}
use Rattle.std.proofs.Common.{Some, None, is_some, refl, sym, ap, ◌∙◌, arith}
use Rattle.std.specs.Prelude.{All, Contains}
use Rattle.std.proofs.lemmas.Bool.{leb-true}
use Rattle.std.proofs.lemmas.List.Elements.{filter_passes}
use Rattle.vms_history.specs.Common.{Header, PlaceId, WaterMark, High, Area, areas_of, areas_from, limit_of}
use Rattle.vms_core.specs.declared.steps.Step.{Step}
use Rattle.vms_calls.specs.declared.answers.Verdict.{Verdict}
use Rattle.vms_calls.specs.Common.{node_number, BalanceNamesZone, FindsBlock, Further, LooksForBlock, Balances}
use Rattle.vms_calls.specs.Common.{has_room, zones_up_to, nowhere, empty, some, no_zone, fails, passes}
use Rattle.vms_calls.specs.declared.answers.OrderVerdict.{OrderVerdict}
use Rattle.vms_calls.specs.declared.answers.Balance.{Balance}
use Rattle.vms_calls.specs.declared.answers.Balance.TheVariants.{Yes, No}

-- a block that was found is as large as was asked for
module _ (header : Header) (g : PlaceId) (order : ℕ) where
  large : (areas : List Area) (steps : List Step) (found : Option ℕ) → FindsBlock header.layout g areas steps found
      → All (λ area. nat_le order area.order ≡ true) areas → (o : ℕ) → found ≡ Some o → order ≤ o
  large areas steps found nowhere each o is = absurd cc
  large areas steps found (empty area areas' first more found' snapshot later) each o is =
      large areas' more found' later (λ i d less. each (suc i) d (omega arith)) o is
  large areas steps found (some area areas' steps' blocks snapshot there) each o is =
      let same : area.order ≡ o = cc in
      let least = leb-true order area.order (each 0 area (omega arith)) in
      omega arith

  block-of : (room : Bool) (steps : List Step) (answer : OrderVerdict)
      → LooksForBlock header g order room steps answer
      → answer.yes ≡ true → (o : ℕ) × (answer.area ≡ Some o) × (order ≤ o)
  block-of false steps answer blocks passed = absurd (true≢false (sym passed ∙ blocks.1))
  block-of true steps answer blocks passed = by answer.area refl
    where
      by : (found : Option ℕ) → answer.area ≡ found → (o : ℕ) × (answer.area ≡ Some o) × (order ≤ o)
      by None is = absurd (true≢false (sym passed ∙ blocks.1 ∙ ap is_some is))
      by (Some o) is = (
        o,
        is,
        large (areas_from order (areas_of header.items)) steps answer.area blocks.0
            (filter_passes (λ area. nat_le order area.order) (areas_of header.items)) o is,
      )

block-found : (header : Header) (g : PlaceId) (mark : WaterMark) (most order : ℕ) (verdict : Verdict)
    (steps : List Step) (answer : OrderVerdict)
    → Further header g mark most order verdict steps answer → answer.yes ≡ true → order ≢ 0
    → (o : ℕ) × (answer.area ≡ Some o) × (order ≤ o)
block-found header g mark most zero verdict steps answer blocks passed above = absurd (above refl)
block-found header g mark most (suc n) verdict steps answer blocks passed above =
    block-of header g (suc n) (has_room (limit_of header g.number mark most) (suc n) verdict.free) steps answer blocks
    passed

-- what is known of the zone that a balance test names
record NamesZone (gs : List ℕ) (order : ℕ) (g : PlaceId) (verdict : OrderVerdict) : Type 0 where
  one_of : Contains gs g.number
  passed : verdict.yes ≡ true
  block : order ≢ 0 → (o : ℕ) × (verdict.area ≡ Some o) × (order ≤ o)

abbrev AnswerNames : List ℕ → ℕ → Balance → Type 0
AnswerNames gs order (Yes g verdict) = NamesZone gs order g verdict
AnswerNames gs order No = Unit {0}

AnswerNames-more : (g : ℕ) (gs : List ℕ) (order : ℕ) (answer : Balance) → AnswerNames gs order answer
    → AnswerNames (g ∷ gs) order answer
AnswerNames-more g gs order (Yes z verdict) named =
    let at = named.one_of in
    record { one_of = (suc at.0, omega (arith, at.1), at.2); passed = named.passed; block = named.block }
AnswerNames-more g gs order No named = tt

balance-named : (header : Header) (most order : ℕ) (gs : List ℕ) (steps : List Step) (answer : Balance)
    → Balances header most order gs steps answer → AnswerNames gs order answer
balance-named header most order gs steps answer no_zone = tt
balance-named header most order gs steps answer (fails g gs' first more verdict answer' test failed later) =
    AnswerNames-more g gs' order answer' (balance-named header most order gs' more answer' later)
balance-named header most order gs steps answer (passes g gs' steps' verdict test passed) = record {
  one_of = (0, omega arith, refl);
  passed = passed;
  block = block-found header (record { number = g }) High most
      order test.verdict test.further verdict test.blocks passed;
}

pub BalanceNamesZone-holds : BalanceNamesZone
BalanceNamesZone-holds header n order most steps g verdict call =
    let named = balance-named header most order (zones_up_to header.layout most (node_number header.layout n)) steps
    (Yes g verdict) call in
    record { one_of = named.one_of; passed = named.passed; block = named.block }
