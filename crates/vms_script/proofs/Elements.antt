-- For other crates too: all elements but the last, and the last.
use Rattle.std.proofs.Common.{List, [], ◌∷◌, ◌++◌, length, refl, subst, arith, length-append}
use Rattle.std.specs.Prelude.{All}
use Rattle.std.proofs.lemmas.List.{get_or_append_left, get_or_push}
use Rattle.std.proofs.lemmas.List.Elements.{All-get_or, All-from_get_or}

pub All-front : {X : Type 0} (P : X → Type 0) (xs : List X) (x : X) → All P (xs ++ x ∷ []) → All P xs
All-front P xs x all = All-from_get_or P xs x (λ i within.
    subst P (get_or_append_left xs (x ∷ []) x i within)
    (All-get_or P (xs ++ x ∷ []) i x (omega (arith, length-append xs (x ∷ []))) all))

pub All-last : {X : Type 0} (P : X → Type 0) (xs : List X) (x : X) → All P (xs ++ x ∷ []) → P x
All-last P xs x all = subst P (get_or_push xs x x (length xs) refl)
    (All-get_or P (xs ++ x ∷ []) (length xs) x (omega (arith, length-append xs (x ∷ []))) all)
