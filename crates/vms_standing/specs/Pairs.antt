-- Two lists of one length, side by side.
use Rattle.std.specs.Prelude.{List, [], ◌∷◌}

abbrev pub Pairs : {A B : Type 0} → (A → B → Type 0) → List A → List B → Type 0
Pairs Fits [] [] = Unit {0}
Pairs Fits (x ∷ xs) (y ∷ ys) = Fits x y × Pairs Fits xs ys
Pairs Fits _ _ = ⊥
