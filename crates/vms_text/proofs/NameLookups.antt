-- For other crates too: a name is found where it stands in a list of names that differ.
use Rattle.std.proofs.Common.{ℕ, ◌≡◌, ◌≢◌, ◌<◌, ◌&&◌, Bool, true, false, not, nat_lt, List, [], ◌∷◌, Some, None, refl}
use Rattle.std.proofs.Common.{sym, ◌∙◌, ap, cond, arith, length, get_or}
use Rattle.std.proofs.lemmas.Bool.Decides.{nat_tests}
use Rattle.std.proofs.lemmas.List.Sums.{position_or_len_is}
use Rattle.std.proofs.lemmas.Slice.Eq.{bytes_eq-Decides}
use Rattle.std.specs.List.{All, list_all}
use Rattle.std.specs.Prelude.{AllPairs, bytes_eq, position}

module _ {X : Type 0} (p : X → Bool) where
  -- the first that passes
  pub position-first : (xs : List X) (i : ℕ) (d : X) → i < length xs → p (get_or xs i d) ≡ true
      → ((k : ℕ) → k < i → p (get_or xs k d) ≡ false) → position p xs ≡ Some i
  position-first xs i d within passes fails =
      let at = position_or_len_is p xs i d (omega arith) fails (λ _. passes) in
      let test : nat_lt i (length xs) ≡ true = grind (arith, nat_tests) in
      ap (λ n. cond (nat_lt n (length xs)) (Some n) None) at ∙ ap (λ b. cond b (Some i) None) test

  -- none passes
  pub position-nowhere : (xs : List X) → All (λ x. p x ≡ false) xs → position p xs ≡ None
  position-nowhere [] fails = refl
  position-nowhere (x ∷ xs) fails =
      let at =
      position_or_len_is p (x ∷ xs) (length (x ∷ xs)) x (omega arith) (λ k within. fails k x within)
      (λ within. absurd (omega arith)) in
      let test : nat_lt (length (x ∷ xs)) (length (x ∷ xs)) ≡ false = grind (arith, nat_tests) in
      ap (λ n. cond (nat_lt n (length (x ∷ xs))) (Some n) None) at ∙ ap (λ b. cond b (Some (length (x ∷ xs))) None) test

pub bytes_eq-same : (word : List ℕ) → bytes_eq word word ≡ true
bytes_eq-same word = (bytes_eq-Decides word word).1 refl

pub bytes_eq-other : (word other : List ℕ) → (word ≡ other → ⊥) → bytes_eq word other ≡ false
bytes_eq-other word other differ =
    elim (bytes_eq word other) as (λ b. bytes_eq word other ≡ b → bytes_eq word other ≡ false) [
      | true ↦ λ is. absurd (differ ((bytes_eq-Decides word other).0 is))
      | false ↦ λ is. is
    ] refl

-- a name stands at its place alone
pub position-name : (names : List (List ℕ)) (i : ℕ) → AllPairs ◌≢◌ names → i < length names
    → position (bytes_eq (get_or names i [])) names ≡ Some i
position-name names i differ within =
    position-first (bytes_eq (get_or names i [])) names i [] within (bytes_eq-same (get_or names i []))
    (λ k before. bytes_eq-other (get_or names i []) (get_or names k [])
    (λ same. differ k i [] before within (sym same)))

-- whether no name of the second list stands in the first
abbrev pub share_no_name : List (List ℕ) → List (List ℕ) → Bool
share_no_name names others = list_all (λ name. list_all (λ other. not (bytes_eq name other)) others) names

-- whether each name stands once
abbrev pub all_differ : List (List ℕ) → Bool
all_differ [] = true
all_differ (name ∷ names) = list_all (λ other. not (bytes_eq name other)) names && all_differ names
