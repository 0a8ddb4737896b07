-- For other crates too: what is true of the free blocks that a search found.
use Rattle.std.proofs.Common.{◌≡◌, ◌≢◌, ℕ, ◌+◌, ◌≤◌, nat_eq, nat_le, not, Bool, true, false, List, ◌++◌, drop, Option}
use Rattle.std.proofs.Common.{Some, None, is_some, refl, sym, ap, subst, ◌∙◌, arith}
use Rattle.std.specs.Prelude.{Contains}
use Rattle.std.proofs.lemmas.Bool.{eqb-false}
use Rattle.vms_calc.proofs.Common.{areas_from-later}
use Rattle.vms_calls.specs.Common.{Header, ItemDecl, CounterId, PlaceId, Area, area_at, area_index, area_names}
use Rattle.vms_calls.specs.Common.{areas_from, areas_named, areas_of, blocks_at, counter_at, Facts, Step, Extends}
use Rattle.vms_history.proofs.Common.{Extends-same}
use Rattle.vms_kswapd.specs.Common.{CountsBlocks}
use Rattle.vms_kswapd.proofs.BlockSearches.{areas-next}
use Rattle.vms_kswapd.proofs.OrderTests.{filter-contains}
use Rattle.vms_look.specs.Common.{SumsTruly}
use Rattle.vms_look.proofs.Common.{sums-whole_call}
use Rattle.vms_seats.specs.Common.{Pass}

-- the area of an order is one of the header's
area-declared : (items : List ItemDecl) (n index : ℕ) → 1 ≤ n → n ≤ 10 → area_index items n ≡ Some index
    → Contains (areas_of items) (record { order = n; position = 8 + index })
area-declared items n index least most is =
    let area : Area = record { order = n; position = 8 + index } in
    let rest = areas_named items (n + 1) (drop n area_names) in
    let first : areas_from n (areas_of items) ≡ area_at n (Some index) ++ rest =
    areas_from-later items n 1 area_names least ∙ areas-next items n least most
    ∙ ap (λ (found : Option ℕ). area_at n found ++ rest) is in
    filter-contains (λ a. nat_le n a.order) (areas_of items) area
    (subst (λ (areas : List Area). Contains areas area) (sym first) (0, omega arith, refl))

not_zero : (n : ℕ) → not (nat_eq n 0) ≡ true → n ≢ 0
not_zero n some = by (nat_eq n 0) refl some
  where
    by : (b : Bool) → nat_eq n 0 ≡ b → not b ≡ true → n ≢ 0
    by true is differs = absurd cc
    by false is differs = eqb-false n 0 is

pub some-found : (found : Option ℕ) → is_some found ≡ true → (order : ℕ) × (found ≡ Some order)
some-found None is = absurd cc
some-found (Some order) is = (order, refl)

module _ (header : Header) (g : PlaceId) where
  -- a snapshot of one area
  pub counted-block : (new old : Pass Facts Step) (k : CounterId) (order index blocks : ℕ) → 1 ≤ order → order ≤ 10
      → area_index header.items order ≡ Some index → k.number ≡ counter_at header.layout g.number (8 + index)
      → SumsTruly new old k blocks → not (nat_eq blocks 0) ≡ true
      → CountsBlocks header new old g order (Some order)
  counted-block new old k order index blocks least most is at sums some =
      let area : Area = record { order = order; position = 8 + index } in
      let same : k ≡ blocks_at header.layout g area = ap (λ (n : ℕ). record { number = n }) at in
      record {
        area = area;
        declared = area-declared header.items order index least most is;
        least = omega arith;
        named = refl;
        blocks = blocks;
        some = not_zero blocks some;
        summed = subst (λ (counter : CounterId). SumsTruly new old counter blocks) same sums;
      }

  -- the snapshot ends a call whose first steps the pass had made before, and which asked for a smaller block
  pub counts-whole_call : (new mid old : Pass Facts Step) (least order : ℕ) (found : Option ℕ) → mid.facts ≡ old.facts
      → mid.number ≡ old.number → Extends mid.seen old.seen → least ≤ order
      → CountsBlocks header new mid g order found → CountsBlocks header new old g least found
  counts-whole_call new mid old least order found facts number since smaller counts = record {
    area = counts.area;
    declared = counts.declared;
    least = let least_of = counts.least in omega (arith, smaller, least_of);
    named = counts.named;
    blocks = counts.blocks;
    some = counts.some;
    summed = sums-whole_call new new mid old (blocks_at header.layout g counts.area) counts.blocks facts number since
        (Extends-same new.seen) counts.summed;
  }
