-- For other crates too: a look for a free block in one area after another.
use Rattle.std.proofs.Common.{◌≡◌, ℕ, suc, ◌+◌, ◌-◌, ◌<◌, ◌≤◌, nat_eq, not, Bool, true, false, List, [], ◌∷◌, ◌++◌}
use Rattle.std.proofs.Common.{length, drop, Option, Some, None, if◌then◌else◌, refl, sym, ap, subst, ◌∙◌, arith}
use Rattle.std.proofs.Common.{append_assoc, append-nil, eqb-true}
use Rattle.std.proofs.Math.Seq.{drop-cons}
use Rattle.std.proofs.lemmas.Bool.{eqb-false}
use Rattle.vms_calls.specs.Common.{Header, ItemDecl, CounterId, PlaceId, Area, area_at, area_names, areas_from}
use Rattle.vms_calls.specs.Common.{areas_named, areas_of, Shape, counter_at, IsSnapshot, FindsBlock, blocks_at, nowhere}
use Rattle.vms_calls.specs.Common.{empty, some, Facts, Step, pages, area_index}
use Rattle.vms_kswapd.specs.Common.{HasSought}
use Rattle.vms_calc.proofs.Common.{areas_from-later}
use Rattle.vms_seats.specs.Common.{Pass, Shared, IsLive, IsFrom, Made}
use Rattle.vms_seats.proofs.Common.{calls-none, calls-both}

module _ (shape : Shape) (g : PlaceId) where
  -- none of the first areas has a block, so the others decide
  pub finds-later : (xs ys : List Area) (first rest : List Step) (before found : Option ℕ) → before ≡ None
      → FindsBlock shape g xs first before → FindsBlock shape g ys rest found
      → FindsBlock shape g (xs ++ ys) (first ++ rest) found
  finds-later xs ys first rest before found is nowhere later = later
  finds-later xs ys first rest before found is (empty area areas snap more before' told finds) later =
      subst (λ (ks : List Step). FindsBlock shape g (area ∷ (areas ++ ys)) ks found) (sym (append_assoc snap more rest))
      (empty area (areas ++ ys) snap (more ++ rest) found told
      (finds-later areas ys more rest before' found is finds later))
  finds-later xs ys first rest before found is (some area areas steps blocks told there) later = absurd cc

  -- one of the first areas has a block, whichever follow
  pub finds-first : (xs ys : List Area) (steps : List Step) (found : Option ℕ) (o : ℕ) → found ≡ Some o
      → FindsBlock shape g xs steps found → FindsBlock shape g (xs ++ ys) steps found
  finds-first xs ys steps found o is nowhere = absurd cc
  finds-first xs ys steps found o is (empty area areas snap more found' told finds) =
      empty area (areas ++ ys) snap more found' told (finds-first areas ys more found' o is finds)
  finds-first xs ys steps found o is (some area areas steps' blocks told there) =
      some area (areas ++ ys) steps' blocks told there

  -- a look at one area
  pub area-sought : (new old : Pass Facts Step) (k : CounterId) (order index blocks : ℕ)
      → k.number ≡ counter_at shape g.number (8 + index)
      → (steps : List Step) × IsSnapshot shape k steps blocks × Made pages new old steps
      → HasSought shape new old g (area_at order (Some index)) (if not (nat_eq blocks 0) then Some order else None)
  area-sought new old k order index blocks at took = by (nat_eq blocks 0) refl
    where
      area : Area
      area = record { order = order; position = 8 + index }

      told : IsSnapshot shape (blocks_at shape g area) took.0 blocks
      told = subst (λ (n : ℕ). IsSnapshot shape (record { number = n }) took.0 blocks) at took.1

      by : (b : Bool) → nat_eq blocks 0 ≡ b
          → HasSought shape new old g (area_at order (Some index)) (if not b then Some order else None)
      by true none = (
        took.0 ++ [],
        empty area [] took.0 [] None
            (subst (λ (n : ℕ). IsSnapshot shape (blocks_at shape g area) took.0 n) (eqb-true blocks 0 none) told)
            nowhere,
        subst (Made pages new old) (sym (append-nil took.0)) took.2,
      )
      by false other = (took.0, some area [] took.0 blocks told (eqb-false blocks 0 other), took.2)

-- the areas of the names from an order on are that of the order and the later ones
pub areas-next : (items : List ItemDecl) (n : ℕ) → 1 ≤ n → n ≤ 10
    → areas_named items n (drop (n - 1) area_names)
    ≡ area_at n (area_index items n) ++ areas_named items (n + 1) (drop n area_names)
areas-next items n least most =
    let before : suc (n - 1) ≡ n = omega arith in
    let next : suc n ≡ n + 1 = omega arith in
    let within : n - 1 < length area_names = omega arith in
    ap (areas_named items n) (drop-cons area_names (n - 1) [] within)
    ∙ ap (λ (m : ℕ). area_at n (area_index items n) ++ areas_named items (suc n) (drop m area_names)) before
    ∙ ap (λ (m : ℕ). area_at n (area_index items n) ++ areas_named items m (drop n area_names)) next

-- the areas of the orders from `order` up to n were looked at, and none has a block
pub record SoughtSoFar (header : Header) (g : PlaceId) (order : ℕ) (now old : Pass Facts Step) (n : ℕ) : Type 0 where
  pub before : List Step
  pub made : Made pages now old before
  pub goes_on : (rest : List Step) (found : Option ℕ)
      → FindsBlock header.layout g (areas_named header.items n (drop (n - 1) area_names)) rest found
      → FindsBlock header.layout g (areas_from order (areas_of header.items)) (before ++ rest) found

module _ (header : Header) (g : PlaceId) (order : ℕ) where
  pub sought-none : 1 ≤ order → (pass : Pass Facts Step) → IsLive pages pass
      → SoughtSoFar header g order pass pass order
  sought-none least pass live = record {
    before = [];
    made = calls-none pages pass live;
    goes_on = λ rest found finds.
        subst (λ (areas : List Area). FindsBlock header.layout g areas rest found)
        (sym (areas_from-later header.items order 1 area_names least)) finds;
  }

  module _ (now old : Pass Facts Step) (n : ℕ) (so_far : SoughtSoFar header g order now old n) where
    pub sought-of : (words : Shared Facts) → IsFrom old words → IsFrom now words
    sought-of words is = record {
      table = so_far.made.table ∙ is.table;
      facts = so_far.made.facts ∙ is.facts;
    }

    pub sought-next : 1 ≤ n → n ≤ 10 → (new : Pass Facts Step)
        → HasSought header.layout new now g (area_at n (area_index header.items n)) None
        → SoughtSoFar header g order new old (n + 1)
    sought-next least most new sought =
        let back : n + 1 - 1 ≡ n = omega arith in
        record {
          before = so_far.before ++ sought.0;
          made = calls-both pages new now old so_far.before sought.0 sought.2 so_far.made;
          goes_on = λ rest found finds.
              subst (λ (ks : List Step). FindsBlock header.layout g (areas_from order (areas_of header.items)) ks found)
              (sym (append_assoc so_far.before sought.0 rest))
              (so_far.goes_on (sought.0 ++ rest) found
              (subst (λ (areas : List Area). FindsBlock header.layout g areas (sought.0 ++ rest) found)
              (sym (areas-next header.items n least most))
              (finds-later header.layout g (area_at n (area_index header.items n))
              (areas_named header.items (n + 1) (drop n area_names)) sought.0 rest None found refl sought.1
              (subst (λ (m : ℕ). FindsBlock header.layout g (areas_named header.items (n + 1) (drop m area_names))
              rest found) back finds))));
        }

    pub sought-found : 1 ≤ n → n ≤ 10 → (new : Pass Facts Step)
        → HasSought header.layout new now g (area_at n (area_index header.items n)) (Some n)
        → HasSought header.layout new old g (areas_from order (areas_of header.items)) (Some n)
    sought-found least most new sought = (
      so_far.before ++ sought.0,
      so_far.goes_on sought.0 (Some n)
          (subst (λ (areas : List Area). FindsBlock header.layout g areas sought.0 (Some n))
          (sym (areas-next header.items n least most))
          (finds-first header.layout g (area_at n (area_index header.items n))
          (areas_named header.items (n + 1) (drop n area_names)) sought.0 (Some n) n refl sought.1)),
      calls-both pages new now old so_far.before sought.0 sought.2 so_far.made,
    )

    -- no area has one
    pub sought-all : n ≡ 11 → HasSought header.layout now old g (areas_from order (areas_of header.items)) None
    sought-all all =
        let none : areas_named header.items n (drop (n - 1) area_names) ≡ [] =
        ap (λ (m : ℕ). areas_named header.items m (drop (m - 1) area_names)) all in (
          so_far.before ++ [],
          so_far.goes_on [] None
              (subst (λ (areas : List Area). FindsBlock header.layout g areas [] None) (sym none) nowhere),
          subst (Made pages now old) (sym (append-nil so_far.before)) so_far.made,
        )
