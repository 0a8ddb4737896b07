-- What is written entry by entry: one entry more.
use Rattle.std.proofs.Common.{◌≡◌, ℕ, zero, suc, ◌+◌, ◌<◌, List, [], ◌∷◌, ◌++◌, refl, ap, ◌∙◌, arith, append-nil}
use Rattle.std.proofs.Common.{flat_map, get_or, length, map, take}
use Rattle.std.specs.List.{enumerate_from, range_with_len}
use Rattle.std.proofs.lemmas.Grind.{flat_map-append}
use Rattle.std.proofs.lemmas.List.{length-take-le, map-append, take_more}

-- the numbers from a on, and one more
range-more : (a n : ℕ) → range_with_len a (suc n) ≡ range_with_len a n ++ (a + n) ∷ []
range-more a zero = let same : a ≡ a + 0 = omega arith in ap (λ (k : ℕ). k ∷ []) same
range-more a (suc n) =
    let same : a + 1 + n ≡ a + suc n = omega arith in
    ap (λ (rest : List ℕ). a ∷ rest)
    (range-more (a + 1) n ∙ ap (λ (k : ℕ). range_with_len (a + 1) n ++ k ∷ []) same)

pub range-next : (n : ℕ) → range_with_len 0 (n + 1) ≡ range_with_len 0 n ++ n ∷ []
range-next n =
    let next : n + 1 ≡ suc n = omega arith in
    let at : 0 + n ≡ n = omega arith in
    ap (range_with_len 0) next ∙ range-more 0 n ∙ ap (λ (k : ℕ). range_with_len 0 n ++ k ∷ []) at

module _ {Y Z : Type 0} where
  -- the lines of one piece more
  pub pieces-more : (write : Y → List Z) (f : ℕ → List Y) (n : ℕ)
      → flat_map write (flat_map f (range_with_len 0 (n + 1)))
      ≡ flat_map write (flat_map f (range_with_len 0 n)) ++ flat_map write (f n)
  pieces-more write f n =
      ap (λ (ks : List ℕ). flat_map write (flat_map f ks)) (range-next n)
      ∙ ap (flat_map write) (flat_map-append f (range_with_len 0 n) (n ∷ [])
      ∙ ap (λ (last : List Y). flat_map f (range_with_len 0 n) ++ last) (append-nil (f n)))
      ∙ flat_map-append write (flat_map f (range_with_len 0 n)) (f n)

  -- one number more
  pub numbers-more : (write : Y → List Z) (f : ℕ → Y) (n : ℕ)
      → flat_map write (map f (range_with_len 0 (n + 1)))
      ≡ flat_map write (map f (range_with_len 0 n)) ++ write (f n)
  numbers-more write f n =
      ap (λ (ks : List ℕ). flat_map write (map f ks)) (range-next n)
      ∙ ap (flat_map write) (map-append f (range_with_len 0 n) (n ∷ []))
      ∙ flat_map-append write (map f (range_with_len 0 n)) (f n ∷ [])
      ∙ ap (λ (last : List Z). flat_map write (map f (range_with_len 0 n)) ++ last) (append-nil (write (f n)))

module _ {X : Type 0} where
  enumerate-push : (n : ℕ) (xs : List X) (x : X)
      → enumerate_from n (xs ++ x ∷ []) ≡ enumerate_from n xs ++ (n + length xs, x) ∷ []
  enumerate-push n [] x = let same : n ≡ n + 0 = omega arith in ap (λ (k : ℕ). (k, x) ∷ []) same
  enumerate-push n (y ∷ ys) x =
      let same : n + 1 + length ys ≡ n + suc (length ys) = omega arith in
      ap (λ (rest : List (ℕ × X)). (n, y) ∷ rest)
      (enumerate-push (n + 1) ys x ∙ ap (λ (k : ℕ). enumerate_from (n + 1) ys ++ (k, x) ∷ []) same)

  -- the first entries, each with its index, and the next one
  enumerate-take_more : (xs : List X) (i : ℕ) (d : X) → i < length xs
      → enumerate_from 0 (take (i + 1) xs) ≡ enumerate_from 0 (take i xs) ++ (i, get_or xs i d) ∷ []
  enumerate-take_more xs i d within =
      let at : 0 + length (take i xs) ≡ i = omega (arith, length-take-le i xs (omega arith)) in
      ap (enumerate_from 0) (take_more xs i d within) ∙ enumerate-push 0 (take i xs) (get_or xs i d)
      ∙ ap (λ (k : ℕ). enumerate_from 0 (take i xs) ++ (k, get_or xs i d) ∷ []) at

  module _ {Z : Type 0} where
    -- the text of one entry more
    pub texts-more : (f : ℕ × X → List Z) (xs : List X) (i : ℕ) (d : X) → i < length xs
        → flat_map f (enumerate_from 0 (take (i + 1) xs))
        ≡ flat_map f (enumerate_from 0 (take i xs)) ++ f (i, get_or xs i d)
    texts-more f xs i d within =
        ap (flat_map f) (enumerate-take_more xs i d within)
        ∙ flat_map-append f (enumerate_from 0 (take i xs)) ((i, get_or xs i d) ∷ [])
        ∙ ap (λ (last : List Z). flat_map f (enumerate_from 0 (take i xs)) ++ last)
        (append-nil (f (i, get_or xs i d)))

    -- the line of one entry more
    pub lines-more : {Y : Type 0} (write : Y → List Z) (f : ℕ × X → Y) (xs : List X) (i : ℕ) (d : X) → i < length xs
        → flat_map write (map f (enumerate_from 0 (take (i + 1) xs)))
        ≡ flat_map write (map f (enumerate_from 0 (take i xs))) ++ write (f (i, get_or xs i d))
    lines-more write f xs i d within =
        ap (λ (entries : List (ℕ × X)). flat_map write (map f entries)) (enumerate-take_more xs i d within)
        ∙ ap (flat_map write) (map-append f (enumerate_from 0 (take i xs)) ((i, get_or xs i d) ∷ []))
        ∙ flat_map-append write (map f (enumerate_from 0 (take i xs))) (f (i, get_or xs i d) ∷ [])
        ∙ ap (λ (last : List Z). flat_map write (map f (enumerate_from 0 (take i xs))) ++ last)
        (append-nil (write (f (i, get_or xs i d))))

-- what is told of the entries by their index alone
pub map-positions : {X Y : Type 0} (f : ℕ → Y) (n : ℕ) (xs : List X)
    → map (λ (entry : ℕ × X). f entry.0) (enumerate_from n xs) ≡ map f (range_with_len n (length (enumerate_from n xs)))
map-positions f n [] = refl
map-positions f n (x ∷ xs) = ap (λ rest. f n ∷ rest) (map-positions f (n + 1) xs
    ∙ ap (λ (m : ℕ). map f (range_with_len (n + 1) m)) refl)
