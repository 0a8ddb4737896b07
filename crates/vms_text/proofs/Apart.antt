-- For other crates too: lists of names that differ from each other.
use Rattle.std.proofs.Common.{ℕ, zero, suc, ◌≡◌, ◌≢◌, true, not, List, [], ◌∷◌, ◌++◌, sym, subst, ◌∙◌, ap, arith}
use Rattle.std.proofs.Common.{get_or, map}
use Rattle.std.proofs.lemmas.Bool.{false≢true}
use Rattle.std.proofs.lemmas.List.{get_or-map, length-map}
use Rattle.std.proofs.lemmas.List.Elements.{All-append, All-head, All-map, All-tail}
use Rattle.std.proofs.lemmas.List.Kept.{AllPairs-cons}
use Rattle.std.proofs.lemmas.List.Sums.{AllPass-from_list_all}
use Rattle.std.proofs.lemmas.Slice.Eq.{bytes_eq-Decides}
use Rattle.std.specs.List.{All, list_all}
use Rattle.std.specs.Prelude.{AllPairs, bytes_eq}
use Rattle.vms_text.proofs.Values.{and_left, and_right}
use Rattle.vms_text.proofs.NameLookups.{all_differ, share_no_name}

-- no name of the one list stands in the other
abbrev pub AreApart : List (List ℕ) → List (List ℕ) → Type 0
AreApart names others = All (λ name. All (λ other. name ≢ other) others) names

pub AreApart-flipped : (names others : List (List ℕ)) → AreApart names others → AreApart others names
AreApart-flipped names others apart = λ j e there i d here same. apart i d here j e there (sym same)

module _ {X : Type 0} (R : X → X → Type 0) where
  pub AllPairs-append : (xs ys : List X) → AllPairs R xs → AllPairs R ys → All (λ x. All (R x) ys) xs
      → AllPairs R (xs ++ ys)
  AllPairs-append [] ys first second apart = second
  AllPairs-append (x ∷ xs) ys first second apart =
      let head : All (R x) xs = λ k d within. first zero (suc k) d (omega arith) (omega arith) in
      AllPairs-cons R x (xs ++ ys) (All-append (R x) xs ys head (All-head (λ z. All (R z) ys) x xs apart))
      (AllPairs-append xs ys (λ i j d before within. first (suc i) (suc j) d (omega arith) (omega arith)) second
      (All-tail (λ z. All (R z) ys) x xs apart))

module _ {X Y : Type 0} (f : X → Y) (R : Y → Y → Type 0) where
  pub AllPairs-from_map : (xs : List X) → AllPairs R (map f xs) → AllPairs (λ a b. R (f a) (f b)) xs
  AllPairs-from_map xs pairs = λ i j d before within.
      let many = length-map xs f in
      let first = get_or-map f xs i d (f d) (omega arith) in
      let second = get_or-map f xs j d (f d) within in
      subst (λ (y : Y). R (f (get_or xs i d)) y) second
      (subst (λ (y : Y). R y (get_or (map f xs) j (f d))) first (pairs i j (f d) before (omega arith)))

  pub AllPairs-map : (xs : List X) → AllPairs (λ a b. R (f a) (f b)) xs → AllPairs R (map f xs)
  AllPairs-map [] pairs = λ i j d before within. absurd (omega arith)
  AllPairs-map (x ∷ xs) pairs =
      let head : All (λ y. R (f x) (f y)) xs = λ k d within. pairs zero (suc k) d (omega arith) (omega arith) in
      AllPairs-cons R (f x) (map f xs) (All-map (R (f x)) f xs head)
      (AllPairs-map xs (λ i j d before within. pairs (suc i) (suc j) d (omega arith) (omega arith)))

differ-from : (name : List ℕ) (names : List (List ℕ)) → list_all (λ other. not (bytes_eq name other)) names ≡ true
    → All (λ other. name ≢ other) names
differ-from name names is = λ k d within same.
    let other = AllPass-from_list_all (λ other. not (bytes_eq name other)) names is k d within in
    false≢true (sym (ap not ((bytes_eq-Decides name (get_or names k d)).1 same)) ∙ other)

pub all_differ-pairs : (names : List (List ℕ)) → all_differ names ≡ true → AllPairs ◌≢◌ names
all_differ-pairs [] is = λ i j d before within. absurd (omega arith)
all_differ-pairs (name ∷ names) is =
    let alone = list_all (λ other. not (bytes_eq name other)) names in
    AllPairs-cons ◌≢◌ name names (differ-from name names (and_left alone (all_differ names) is))
    (all_differ-pairs names (and_right alone (all_differ names) is))

pub are_apart-AreApart : (names others : List (List ℕ)) → share_no_name names others ≡ true → AreApart names others
are_apart-AreApart names others is = λ k d within.
    differ-from (get_or names k d) others
    (AllPass-from_list_all (λ name. list_all (λ other. not (bytes_eq name other)) others) names is k d within)
