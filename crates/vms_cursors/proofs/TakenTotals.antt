-- How totals grow by the entries of a list.
use Rattle.std.proofs.Common.{◌≡◌, ℕ, ◌+◌, ◌<◌, ◌≤◌, nat_eq, Bool, true, false, ℤ, pos, ◌+ℤ◌, unsigned_abs, List}
use Rattle.std.proofs.Common.{length, if◌then◌else◌, refl, ◌∙◌, arith, add-one}
use Rattle.std.proofs.Math.ListN.{set}
use Rattle.std.proofs.lemmas.Int.{ints}
use Rattle.std.specs.Prelude.{slice_index_or}
use Rattle.vms_calls.specs.Common.{AreBytes, Shape, first_of_group, item_of, sum_below}
use Rattle.vms_history.proofs.Common.{get_or-changed}
use Rattle.vms_cursors.specs.Totals.{total_at}

-- an entry for another item adds nothing
abbrev pub entry_for : Shape → ℕ → List ℤ → ℕ → ℕ → ℤ
entry_for shape j values i n =
    if nat_eq (item_of shape (first_of_group j + n)) i then slice_index_or values n (pos 0) else pos 0

added : (b : Bool) (x z : ℤ) → (if b then x +ℤ z else x) ≡ x +ℤ (if b then z else pos 0)
added true x z = refl
added false x z = omega (arith, ints)

module _ (shape : Shape) (j : ℕ) (values totals before : List ℤ) (n : ℕ)
    (within : item_of shape (first_of_group j + n) < length totals) where
  abbrev item : ℕ
  item = item_of shape (first_of_group j + n)

  abbrev z : ℤ
  z = slice_index_or values n (pos 0)

  abbrev more : List ℤ
  more = set totals item (total_at totals item +ℤ z)

  one-more : (i : ℕ) → total_at more i ≡ total_at totals i +ℤ entry_for shape j values i n
  one-more i = get_or-changed (λ x. x +ℤ z) totals item i (pos 0) within
      ∙ added (nat_eq item i) (total_at totals i) z

  pub totals-more : (i : ℕ)
      → total_at totals i ≡ total_at before i +ℤ sum_below (entry_for shape j values i) n
      → total_at more i ≡ total_at before i +ℤ sum_below (entry_for shape j values i) (n + 1)
  totals-more i was = rw (add-one n) (omega (arith, ints, one-more i, was))

  entry-few : AreBytes values → (b : Bool) → unsigned_abs (if b then z else pos 0) ≤ 128
  entry-few bytes true = let range = bytes n in omega (arith, ints)
  entry-few bytes false = omega (arith, ints)

  pub bound-more : AreBytes values → (most : ℕ) → (i : ℕ) → unsigned_abs (total_at totals i) ≤ most
      → unsigned_abs (total_at more i) ≤ most + 128
  bound-more bytes most i was = omega (arith, ints, one-more i, was, entry-few bytes (nat_eq item i))
