-- The line of one group more.
use Rattle.std.proofs.Common.{◌≡◌, ℕ, suc, ◌+◌, ◌<◌, List, [], ◌∷◌, ◌++◌, ap, ◌∙◌, arith, append-nil, flat_map, get_or}
use Rattle.std.proofs.Common.{length, take}
use Rattle.std.specs.List.{enumerate_from}
use Rattle.std.proofs.lemmas.Grind.{flat_map-append}
use Rattle.std.proofs.lemmas.List.{length-take-le, take_more}

module _ {X : Type 0} where
  enumerate-push : (n : ℕ) (xs : List X) (x : X)
      → enumerate_from n (xs ++ x ∷ []) ≡ enumerate_from n xs ++ (n + length xs, x) ∷ []
  enumerate-push n [] x = let same : n ≡ n + 0 = omega arith in ap (λ (k : ℕ). (k, x) ∷ []) same
  enumerate-push n (y ∷ ys) x =
      let same : n + 1 + length ys ≡ n + suc (length ys) = omega arith in
      ap (λ (rest : List (ℕ × X)). (n, y) ∷ rest)
      (enumerate-push (n + 1) ys x ∙ ap (λ (k : ℕ). enumerate_from (n + 1) ys ++ (k, x) ∷ []) same)

  -- the text of one entry more
  pub texts-more : {Z : Type 0} (f : ℕ × X → List Z) (xs : List X) (i : ℕ) (d : X) → i < length xs
      → flat_map f (enumerate_from 0 (take (i + 1) xs))
      ≡ flat_map f (enumerate_from 0 (take i xs)) ++ f (i, get_or xs i d)
  texts-more {Z} f xs i d within =
      let at : 0 + length (take i xs) ≡ i = omega (arith, length-take-le i xs (omega arith)) in
      ap (λ (front : List X). flat_map f (enumerate_from 0 front)) (take_more xs i d within)
      ∙ ap (flat_map f) (enumerate-push 0 (take i xs) (get_or xs i d)
      ∙ ap (λ (k : ℕ). enumerate_from 0 (take i xs) ++ (k, get_or xs i d) ∷ []) at)
      ∙ flat_map-append f (enumerate_from 0 (take i xs)) ((i, get_or xs i d) ∷ [])
      ∙ ap (λ (last : List Z). flat_map f (enumerate_from 0 (take i xs)) ++ last)
      (append-nil (f (i, get_or xs i d)))
