-- The declared items of a class from some item on.
use Rattle.std.proofs.Common.{ℕ, ◌≡◌, ◌+◌, ◌<◌, Bool, true, false, cond, List, ◌∷◌, refl, ◌∙◌, ap, drop, length, get_or}
use Rattle.std.proofs.lemmas.List.{drop_more}
use Rattle.std.specs.List.{filter}

module _ {X : Type 0} (p : X → Bool) where
  one_more : (x : X) (xs : List X) (b : Bool) → p x ≡ b → filter p (x ∷ xs) ≡ cond b (x ∷ filter p xs) (filter p xs)
  one_more x xs b is = rw is refl

  pub filter-drop_yes : (xs : List X) (i : ℕ) (d : X) → i < length xs → p (get_or xs i d) ≡ true
      → filter p (drop i xs) ≡ get_or xs i d ∷ filter p (drop (i + 1) xs)
  filter-drop_yes xs i d within is =
      ap (filter p) (drop_more xs i d within) ∙ one_more (get_or xs i d) (drop (i + 1) xs) true is

  pub filter-drop_no : (xs : List X) (i : ℕ) (d : X) → i < length xs → p (get_or xs i d) ≡ false
      → filter p (drop i xs) ≡ filter p (drop (i + 1) xs)
  filter-drop_no xs i d within is =
      ap (filter p) (drop_more xs i d within) ∙ one_more (get_or xs i d) (drop (i + 1) xs) false is
