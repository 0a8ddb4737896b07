-- For other crates too: a list cut at each element that passes a test.
use Rattle.std.proofs.Common.{ℕ, ◌≡◌, ◌+◌, ◌<◌, ◌≤◌, Bool, true, false, List, [], ◌∷◌, Some, None, refl, subst, ◌∙◌, ap}
use Rattle.std.proofs.Common.{arith, take, drop, length, get_or, position, not, ◌++◌, sym}
use Rattle.std.proofs.lemmas.Bool.Decides.{nat_tests}
use Rattle.std.proofs.lemmas.List.Splits.{slice_split-cons_no, slice_split_first}
use Rattle.std.proofs.lemmas.List.{drop_more, length-take-le, take-append-drop, get_or-take}
use Rattle.std.proofs.lemmas.List.Sums.{fails_before_first, prefix_len_stops}
use Rattle.std.specs.List.{All, slice_split, onto_first, position_or_len}

pub position_or_len-none : {X : Type 0} (p : X → Bool) (xs : List X) → position p xs ≡ None
    → length xs ≤ position_or_len p xs
position_or_len-none p xs none = grind (arith, nat_tests)

pub position_or_len-some : {X : Type 0} (p : X → Bool) (xs : List X) (end : ℕ) → position p xs ≡ Some end
    → (position_or_len p xs ≡ end) × (end < length xs)
position_or_len-some p xs end some = grind (arith, nat_tests)

uncut : {X : Type 0} (p : X → Bool) (xs : List X) → length xs ≤ position_or_len p xs → slice_split p xs ≡ xs ∷ []
uncut p [] whole = refl
uncut p (x ∷ xs) whole = elim (p x) as (λ b. p x ≡ b → slice_split p (x ∷ xs) ≡ (x ∷ xs) ∷ []) [
  | true ↦ λ passes. absurd (grind (arith, nat_tests))
  | false ↦ λ fails. slice_split-cons_no p x xs fails ∙ ap (onto_first x) (uncut p xs (grind (arith, nat_tests)))
] refl

pub not-false : (b : Bool) → not b ≡ false → b ≡ true
not-false true is = refl
not-false false is = absurd cc

-- where no element passes, the list is the one part
pub slice_split-uncut : {X : Type 0} (p : X → Bool) (xs : List X) → position p xs ≡ None → slice_split p xs ≡ xs ∷ []
slice_split-uncut p xs none = uncut p xs (position_or_len-none p xs none)

-- the first part ends at the first element that passes
pub slice_split-cut : {X : Type 0} (p : X → Bool) (xs : List X) (end : ℕ) (d : X) → position p xs ≡ Some end
    → slice_split p xs ≡ take end xs ∷ slice_split p (drop (end + 1) xs)
slice_split-cut p xs end d some =
    let at = position_or_len-some p xs end some in
    subst (λ n. slice_split p xs ≡ take n xs ∷ slice_split p (drop (n + 1) xs)) at.0
    (slice_split_first p xs d (omega (arith, at)))

-- what stands before the first element that passes, that element, and what stands after it
pub position-parts : {X : Type 0} (p : X → Bool) (xs : List X) (end : ℕ) (d : X) → position p xs ≡ Some end
    → (p (get_or xs end d) ≡ true) × (xs ≡ take end xs ++ (get_or xs end d ∷ drop (end + 1) xs))
position-parts p xs end d some =
    let at = position_or_len-some p xs end some in
    let stops = prefix_len_stops (λ x. not (p x)) xs d (subst (λ n. n < length xs) (sym at.0) at.1) in (
      not-false (p (get_or xs end d)) (subst (λ n. not (p (get_or xs n d)) ≡ false) at.0 stops),
      sym (take-append-drop end xs) ∙ ap (λ rest. take end xs ++ rest) (drop_more xs end d at.1),
    )

-- no element before the first that passes does
pub position-before : {X : Type 0} (p : X → Bool) (xs : List X) (end : ℕ) → position p xs ≡ Some end
    → All (λ x. p x ≡ false) (take end xs)
position-before p xs end some = λ k d below.
    let at = position_or_len-some p xs end some in
    let short : k < end = omega (arith, length-take-le end xs (omega arith), below) in
    let before = fails_before_first p xs k d (subst (λ n. k < n) (sym at.0) short) in
    subst (λ x. p x ≡ false) (sym (get_or-take end xs k d short)) before

-- where none passes, none does
pub position-none : {X : Type 0} (p : X → Bool) (xs : List X) → position p xs ≡ None → All (λ x. p x ≡ false) xs
position-none p xs none = λ k d below. fails_before_first p xs k d (omega (arith, position_or_len-none p xs none))
