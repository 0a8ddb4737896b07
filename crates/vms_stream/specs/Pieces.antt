-- The whole lines of a text that was taken in part.
use Rattle.std.specs.Prelude.{ℕ, ◌==◌, List, [], ◌∷◌}
use Rattle.std.specs.List.{slice_split}

-- what stands between the newlines of a text, before the first one and after the last
abbrev pub newline_parts : List ℕ → List (List ℕ)
newline_parts text = slice_split (λ byte. byte == 10) text

-- all parts but for the last
abbrev pub front_of : List (List ℕ) → List (List ℕ)
front_of [] = []
front_of (part ∷ []) = []
front_of (part ∷ (next ∷ parts)) = part ∷ front_of (next ∷ parts)

-- the last of some parts
abbrev pub last_of : List (List ℕ) → List ℕ
last_of [] = []
last_of (part ∷ []) = part
last_of (part ∷ (next ∷ parts)) = last_of (next ∷ parts)

-- the lines of a text that end with a newline
abbrev pub whole_lines : List ℕ → List (List ℕ)
whole_lines text = front_of (newline_parts text)

-- what stands after the last newline, or all where there is none
abbrev pub partial_line : List ℕ → List ℕ
partial_line text = last_of (newline_parts text)
