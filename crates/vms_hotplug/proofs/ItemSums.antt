-- The bases of an item's counters, added one after another.
use Rattle.std.proofs.Common.{◌≡◌, ◌≢◌, ℕ, suc, ◌+◌, ◌*◌, ◌^◌, ◌<◌, ◌≤◌, nat_eq, Bool, true, false, ℤ, pos, ◌+ℤ◌}
use Rattle.std.proofs.Common.{unsigned_abs, List, length, get_or, refl, sym, subst, ◌∙◌, arith, if◌then◌else◌}
use Rattle.std.proofs.Common.{length-set, get_or-set_same, get_or-set_other}
use Rattle.std.proofs.Math.ListN.{set}
use Rattle.std.proofs.lemmas.Bool.Decides.{nat_tests}
use Rattle.std.proofs.lemmas.Int.{ints}
use Rattle.vms_world.specs.Common.{Header, IsLayout, item_of, item_count, sum_below, base_of}
use Rattle.vms_base.proofs.Common.{item_of-lt}

-- each item has the bases of its counters below n
pub record HasBases (header : Header) (n : ℕ) (values : List ℤ) : Type 0 where
  pub length_is : length values ≡ item_count header.layout
  pub sums : (i : ℕ) → i < item_count header.layout → get_or values i (pos 0)
      ≡ sum_below (λ k. if nat_eq (item_of header.layout k) i then base_of header k else pos 0) n
  pub small : (i : ℕ) → i < item_count header.layout → unsigned_abs (get_or values i (pos 0)) ≤ n * 2 ^ 48

module _ (header : Header) (layout : IsLayout header.layout)
    (most : (k : ℕ) → unsigned_abs (base_of header k) ≤ 2 ^ 48) (n : ℕ) (values : List ℤ)
    (has : HasBases header n values) where
  abbrev item : ℕ
  item = item_of header.layout n

  abbrev more : ℤ
  more = get_or values item (pos 0) +ℤ base_of header n

  abbrev of_item : ℕ → ℕ → ℤ
  of_item i k = if nat_eq (item_of header.layout k) i then base_of header k else pos 0

  item_in : item < length values
  item_in = omega (arith, item_of-lt header.layout layout n, has.length_is)

  pub more_small : unsigned_abs more ≤ (n + 1) * 2 ^ 48
  more_small = omega (arith, ints, has.small item (item_of-lt header.layout layout n), most n)

  at : (i : ℕ) → i < item_count header.layout → (b : Bool) → nat_eq item i ≡ b
      → get_or (set values item more) i (pos 0) ≡ (if b then base_of header n else pos 0) +ℤ sum_below (of_item i) n
  at i known true is =
      let same : item ≡ i = grind (arith, nat_tests) in
      let here : get_or (set values item more) item (pos 0)
      ≡ base_of header n +ℤ sum_below (of_item item) n = omega (
        arith,
        ints,
        get_or-set_same values item more (pos 0) item_in,
        has.sums item (item_of-lt header.layout layout n),
      ) in
      subst (λ (j : ℕ). get_or (set values item more) j (pos 0) ≡ base_of header n +ℤ sum_below (of_item j) n) same here
  at i known false is =
      let other : i ≢ item = grind (arith, nat_tests) in
      omega (arith, ints, get_or-set_other values item i more (pos 0) other, has.sums i known)

  at_small : (i : ℕ) → i < item_count header.layout → (b : Bool) → nat_eq item i ≡ b
      → unsigned_abs (get_or (set values item more) i (pos 0)) ≤ (n + 1) * 2 ^ 48
  at_small i known true is =
      let same : item ≡ i = grind (arith, nat_tests) in
      subst (λ (j : ℕ). unsigned_abs (get_or (set values item more) j (pos 0)) ≤ (n + 1) * 2 ^ 48) same
      (subst (λ (z : ℤ). unsigned_abs z ≤ (n + 1) * 2 ^ 48) (sym (get_or-set_same values item more (pos 0) item_in))
      more_small)
  at_small i known false is =
      let other : i ≢ item = grind (arith, nat_tests) in
      subst (λ (z : ℤ). unsigned_abs z ≤ (n + 1) * 2 ^ 48) (sym (get_or-set_other values item i more (pos 0) other))
      (omega (arith, has.small i known))

  -- a counter more
  pub HasBases-more : HasBases header (n + 1) (set values item more)
  HasBases-more = record {
    length_is = length-set values item more ∙ has.length_is;
    sums = λ i known. subst (λ (m : ℕ). get_or (set values item more) i (pos 0) ≡ sum_below (of_item i) m)
        (let step : suc n ≡ n + 1 = omega arith in step) (at i known (nat_eq item i) refl);
    small = λ i known. at_small i known (nat_eq item i) refl;
  }
