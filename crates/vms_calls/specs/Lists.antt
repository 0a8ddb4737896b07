-- Steps in a row.
use Rattle.std.specs.Prelude.{ℕ, suc, List, [], ◌∷◌, ◌++◌}
use Rattle.vms_core.specs.declared.steps.Step.{Step}

-- the steps for each of the things that were found, in order: those for the first carry the number n, those for the
-- next one n + 1
abbrev pub in_turn : {X : Type 0} → (ℕ → X → List Step) → ℕ → List X → List Step
in_turn steps n [] = []
in_turn steps n (x ∷ xs) = steps n x ++ in_turn steps (suc n) xs
