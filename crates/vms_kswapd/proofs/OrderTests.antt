-- For other crates too: the steps of a test for an order, and what a yes says.
use Rattle.std.proofs.Common.{◌≡◌, ◌≢◌, ℕ, zero, suc, nat_le, nat_lt, Bool, true, false, true≢false, List, [], ◌++◌}
use Rattle.std.proofs.Common.{Option, Some, None, is_some, refl, sym, ap, subst, ◌∙◌, arith, append_assoc, append-nil}
use Rattle.std.proofs.Common.{filter}
use Rattle.std.specs.Prelude.{All, Contains}
use Rattle.std.proofs.lemmas.Bool.{leb-true}
use Rattle.std.proofs.lemmas.Bool.Decides.{nat_tests}
use Rattle.std.proofs.lemmas.List.Elements.{All-contains, All-filter, Contains-get_or, filter_passes}
use Rattle.vms_calls.specs.Common.{Header, PlaceId, WaterMark, Area, areas_from, areas_of, limit_of, IsWatermarkTest}
use Rattle.vms_calls.specs.Common.{LooksForBlock, FindsBlock, Further, IsOrderTest, has_room, nowhere, empty, some}
use Rattle.vms_calls.specs.Common.{Facts, Step, pages}
use Rattle.vms_calls.specs.declared.answers.Verdict.{Verdict}
use Rattle.vms_calls.specs.declared.answers.OrderVerdict.{OrderVerdict}
use Rattle.vms_kswapd.specs.Common.{FoundBlock, Seeks}
use Rattle.vms_seats.specs.Common.{Pass, Made}
use Rattle.vms_seats.proofs.Common.{calls-both}

-- the answer of a test by the watermark's and by the block that was found
abbrev pub with_area : Verdict → Bool → Option ℕ → OrderVerdict
with_area verdict passed area = record { yes = passed; free = verdict.free; fast = verdict.fast; area = area }

module _ (header : Header) (g : PlaceId) (mark : WaterMark) (most : ℕ) (verdict : Verdict) where
  seeks-blocks : (order : ℕ) (room : Bool) (steps : List Step) (area : Option ℕ) → Seeks header g order room steps area
      → LooksForBlock header g order room steps (with_area verdict (is_some area) area)
  seeks-blocks order true steps area seeks = (seeks, refl)
  seeks-blocks order false steps area seeks = (seeks.0, ap is_some seeks.1, seeks.1)

  seeks-further : (order : ℕ) → order ≢ 0 → (steps : List Step) (area : Option ℕ)
      → Seeks header g order (has_room (limit_of header g.number mark most) order verdict.free) steps area
      → Further header g mark most order verdict steps (with_area verdict (is_some area) area)
  seeks-further zero above steps area seeks = absurd (above refl)
  seeks-further (suc n) above steps area seeks =
      seeks-blocks (suc n) (has_room (limit_of header g.number mark most) (suc n) verdict.free) steps area seeks

  module _ (mid old : Pass Facts Step)
      (tested : (steps : List Step) × IsWatermarkTest header g mark most steps verdict × Made pages mid old steps) where
    pub order-zero : (order : ℕ) → order ≡ 0
        → (steps : List Step) × IsOrderTest header g mark most order steps (with_area verdict verdict.yes None)
        × Made pages mid old steps
    order-zero order none = (
      tested.0,
      subst (λ (n : ℕ). IsOrderTest header g mark most n tested.0 (with_area verdict verdict.yes None)) (sym none)
          (record {
            verdict = verdict;
            test = tested.0;
            tests = tested.1;
            further = [];
            blocks = (refl, refl, refl);
            in_order = sym (append-nil tested.0);
            free = refl;
            fast = refl;
          }),
      tested.2,
    )

    pub order-above : (order : ℕ) → order ≢ 0 → (new : Pass Facts Step) (area : Option ℕ)
        → (steps : List Step)
        × Seeks header g order (has_room (limit_of header g.number mark most) order verdict.free) steps area
        × Made pages new mid steps
        → (steps : List Step)
        × IsOrderTest header g mark most order steps (with_area verdict (is_some area) area)
        × Made pages new old steps
    order-above order above new area sought = (
      tested.0 ++ sought.0,
      record {
        verdict = verdict;
        test = tested.0;
        tests = tested.1;
        further = sought.0;
        blocks = seeks-further order above sought.0 area sought.1;
        in_order = refl;
        free = refl;
        fast = refl;
      },
      calls-both pages new mid old tested.0 sought.0 sought.2 tested.2,
    )

  -- a block was found only where there was room, so that the watermark test was yes
  pub found-passed : (order : ℕ) (steps : List Step) (area : Option ℕ) → is_some area ≡ true
      → Seeks header g order (has_room (limit_of header g.number mark most) order verdict.free) steps area
      → verdict.yes ≡ nat_lt (limit_of header g.number mark most) verdict.free → verdict.yes ≡ true
  found-passed order steps area found seeks told =
      by (has_room (limit_of header g.number mark most) order verdict.free) refl seeks
    where
      by : (b : Bool) → has_room (limit_of header g.number mark most) order verdict.free ≡ b
          → Seeks header g order b steps area → verdict.yes ≡ true
      by true room seeks = told ∙ grind (arith, nat_tests, room)
      by false room seeks = absurd (true≢false (sym found ∙ ap is_some seeks.1))

-- what a filter keeps stood in the list
pub filter-contains : {X : Type 0} (p : X → Bool) (xs : List X) (x : X) → Contains (filter p xs) x → Contains xs x
filter-contains p xs x there =
    All-contains (λ a. Contains xs a) (filter p xs) x
    (All-filter p (λ a. Contains xs a) xs (λ i d less. Contains-get_or xs i d less)) there

-- the block that was found
module _ (header : Header) (g : PlaceId) (order : ℕ) where
  found-in : (areas : List Area) (steps : List Step) (found : Option ℕ) → FindsBlock header.layout g areas steps found
      → All (λ area. nat_le order area.order ≡ true) areas
      → ((area : Area) → Contains areas area → Contains (areas_of header.items) area)
      → (o : ℕ) → found ≡ Some o → FoundBlock header g order steps found
  found-in areas steps found nowhere each known o is = absurd cc
  found-in areas steps found (empty area areas' first more found' snapshot later) each known o is =
      let rest = found-in areas' more found' later (λ i d less. each (suc i) d (omega arith))
      (λ x there. known x (suc there.0, omega (arith, there.1), there.2)) o is in
      record {
        area = rest.area;
        declared = rest.declared;
        least = rest.least;
        named = rest.named;
        earlier = first ++ rest.earlier;
        look = rest.look;
        blocks = rest.blocks;
        in_order = ap (λ (ks : List Step). first ++ ks) rest.in_order ∙ sym (append_assoc first rest.earlier rest.look);
        snapshot = rest.snapshot;
        some = rest.some;
      }
  found-in areas steps found (some area areas' steps' blocks snapshot there) each known o is = record {
    area = area;
    declared = known area (0, omega arith, refl);
    least = leb-true order area.order (each 0 area (omega arith));
    named = refl;
    earlier = [];
    look = steps';
    blocks = blocks;
    in_order = refl;
    snapshot = snapshot;
    some = there;
  }

  found-block : (room : Bool) (steps : List Step) (answer : OrderVerdict) →
      LooksForBlock header g order room steps answer
      → answer.yes ≡ true → FoundBlock header g order steps answer.area
  found-block false steps answer blocks passed = absurd (true≢false (sym passed ∙ blocks.1))
  found-block true steps answer blocks passed = by answer.area refl
    where
      by : (found : Option ℕ) → answer.area ≡ found → FoundBlock header g order steps answer.area
      by None is = absurd (true≢false (sym passed ∙ blocks.1 ∙ ap is_some is))
      by (Some o) is =
          found-in (areas_from order (areas_of header.items)) steps answer.area blocks.0
          (filter_passes (λ area. nat_le order area.order) (areas_of header.items))
          (filter-contains (λ area. nat_le order area.order) (areas_of header.items)) o is

-- a yes above order 0 found one
pub order-found : (header : Header) (g : PlaceId) (mark : WaterMark) (most order : ℕ) (steps : List Step)
    (answer : OrderVerdict) → IsOrderTest header g mark most order steps answer → answer.yes ≡ true → order ≢ 0
    → FoundBlock header g order steps answer.area
order-found header g mark most order steps answer tests passed above =
    let found = by order tests.blocks above in
    record {
      area = found.area;
      declared = found.declared;
      least = found.least;
      named = found.named;
      earlier = tests.test ++ found.earlier;
      look = found.look;
      blocks = found.blocks;
      in_order = tests.in_order ∙ ap (λ (ks : List Step). tests.test ++ ks) found.in_order
          ∙ sym (append_assoc tests.test found.earlier found.look);
      snapshot = found.snapshot;
      some = found.some;
    }
  where
    by : (n : ℕ) → Further header g mark most n tests.verdict tests.further answer → n ≢ 0
        → FoundBlock header g n tests.further answer.area
    by zero further above = absurd (above refl)
    by (suc n) further above =
        found-block header g (suc n) (has_room (limit_of header g.number mark most) (suc n) tests.verdict.free)
        tests.further answer further passed
