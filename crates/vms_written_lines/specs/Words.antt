-- The words of a line that are still to be read.
use Rattle.std.specs.Prelude.{ℕ, Bool, true, false, List, [], ◌∷◌, Option, Some, None, option_map}

-- these words, and whether each byte between those of the whole line is a blank
pub record WordsLeft : Type 0 where
  pub words : List (List ℕ)
  pub clean : Bool

-- there is no word
abbrev pub are_none : List (List ℕ) → Bool
are_none [] = true
are_none (word ∷ words) = false

-- what the first word says, and the words after it
abbrev pub first : {A : Type 0} → (List ℕ → Option A) → List (List ℕ) → Option (A × List (List ℕ))
first read [] = None
first read (word ∷ words) = option_map (λ found. (found, words)) (read word)

-- what all words say: nothing stands after it
abbrev pub whole : {A : Type 0} → Option (A × List (List ℕ)) → Option A
whole (Some (found, [])) = Some found
whole _ = None
