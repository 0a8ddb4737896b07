-- What is true of all of a list is true of the one between some and others.
use Rattle.std.proofs.Common.{◌≡◌, ◌<◌, List, [], ◌∷◌, ◌++◌, refl, subst, ap, arith, length, length-append, get_or, map}
use Rattle.std.proofs.lemmas.List.{get_or-map, get_or_append_left, get_or_at, length-map}
use Rattle.std.specs.List.{All}
use Rattle.std.specs.Prelude.{AllPairs, zip}

module _ {X : Type 0} (done rest : List X) (x : X) where
  long : length done < length (done ++ x ∷ rest)
  long = omega (arith, length-append done (x ∷ rest))

  pub All-middle : (P : X → Type 0) → All P (done ++ x ∷ rest) → P x
  All-middle P all = subst P (get_or_at done x rest x (length done) refl) (all (length done) x long)

  pub AllPairs-middle : (R : X → X → Type 0) → AllPairs R (done ++ x ∷ rest) → All (λ other. R other x) done
  AllPairs-middle R pairs = λ k d within.
      let first = get_or_append_left done (x ∷ rest) d k within in
      let second = get_or_at done x rest d (length done) refl in
      subst (λ (y : X). R (get_or done k d) y) second
      (subst (λ (y : X). R y (get_or (done ++ x ∷ rest) (length done) d)) first (pairs k (length done) d within long))

pub All-from_map : {X Y : Type 0} (f : X → Y) (P : Y → Type 0) (xs : List X) → All P (map f xs) → All (λ x. P (f x)) xs
All-from_map f P xs all =
    λ k d within. subst P (get_or-map f xs k d (f d) within) (all k (f d) (omega (arith, within, length-map xs f)))

-- the two lists of a list of pairs
pub map-zip_first : {X Y : Type 0} (xs : List X) (ys : List Y) → length ys ≡ length xs
    → map (λ pair. pair.0) (zip xs ys) ≡ xs
map-zip_first [] [] same = refl
map-zip_first [] (y ∷ ys) same = absurd (omega arith)
map-zip_first (x ∷ xs) [] same = absurd (omega arith)
map-zip_first (x ∷ xs) (y ∷ ys) same = ap (λ more. x ∷ more) (map-zip_first xs ys (omega arith))

pub map-zip_second : {X Y : Type 0} (xs : List X) (ys : List Y) → length ys ≡ length xs
    → map (λ pair. pair.1) (zip xs ys) ≡ ys
map-zip_second [] [] same = refl
map-zip_second [] (y ∷ ys) same = absurd (omega arith)
map-zip_second (x ∷ xs) [] same = absurd (omega arith)
map-zip_second (x ∷ xs) (y ∷ ys) same = ap (λ more. y ∷ more) (map-zip_second xs ys (omega arith))
