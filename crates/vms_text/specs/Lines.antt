-- A text as lines.
use Rattle.std.specs.Prelude.{ℕ, ◌≡◌, ◌≢◌, ◌==◌, ◌⊎◌, List, [], ◌∷◌, ◌++◌}
use Rattle.std.specs.List.{All, slice_split}

-- the parts without the last one, if that is empty
abbrev pub without_last_empty : List (List ℕ) → List (List ℕ)
without_last_empty [] = []
without_last_empty ([] ∷ []) = []
without_last_empty (part ∷ parts) = part ∷ without_last_empty parts

-- the lines of a text: each ends at a byte 10, and the last may lack it
abbrev pub lines_of : List ℕ → List (List ℕ)
lines_of text = without_last_empty (slice_split (λ byte. byte == 10) text)

-- the line that a text begins with, and what stands after its end; the whole text, and nothing, where no byte 10 ends
-- it
pub record SplitsLine (text line rest : List ℕ) : Type 0 where
  pub one_line : All (λ byte. byte ≢ 10) line
  pub parts : (text ≡ line ++ (10 ∷ rest)) ⊎ ((text ≡ line) × (rest ≡ []))

-- a text's lines up to an end of line, and those after it, are its lines
abbrev pub LinesAppend : Type 0
LinesAppend =
    (before after : List ℕ) → lines_of (before ++ (10 ∷ after)) ≡ lines_of (before ++ (10 ∷ [])) ++ lines_of after

-- a text's first line ends at its first byte 10
abbrev pub FirstLine : Type 0
FirstLine = (line rest : List ℕ) → All (λ byte. byte ≢ 10) line → lines_of (line ++ (10 ∷ rest)) ≡ line ∷ lines_of rest

-- a text that isn't empty and has no byte 10 is one line
abbrev pub LastLine : Type 0
LastLine = (line : List ℕ) → All (λ byte. byte ≢ 10) line → line ≢ [] → lines_of line ≡ line ∷ []
