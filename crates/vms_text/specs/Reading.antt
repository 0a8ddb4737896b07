-- How a line is looked at before its words are.
use Rattle.std.specs.Prelude.{ℕ, ◌==◌, ◌||◌, Bool, false, not, List, ◌∷◌, Result, Ok, Err}
use Rattle.std.specs.List.{list_all}
use Rattle.vms_text.specs.Words.{is_blank_byte, is_wrong_byte, words_of}

-- what the next part says of what was read, or the cause why that wasn't read
abbrev pub and_then : {A B E : Type 0} → Result A E → (A → Result B E) → Result B E
and_then (Ok found) next = next found
and_then (Err cause) next = Err cause

-- the most bytes of a line
abbrev pub most_line : ℕ
most_line = 200

-- whether the first word begins with `#`
abbrev pub is_comment : List (List ℕ) → Bool
is_comment ((byte ∷ bytes) ∷ words) = byte == 35
is_comment _ = false

-- a line that is ignored: it holds nothing but blanks, or its first word begins with `#`
abbrev pub is_ignored : List ℕ → Bool
is_ignored line = list_all is_blank_byte line || is_comment (words_of line)

-- each byte is a blank or one of a word
abbrev pub is_clean : List ℕ → Bool
is_clean line = list_all (λ byte. not (is_wrong_byte byte)) line
