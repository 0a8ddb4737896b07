-- The line that ends a trace.
use Rattle.std.specs.Prelude.{ℕ, nat_le, ◌&&◌, Bool, List, [], ◌∷◌, length, codes, bytes_eq}
use Rattle.std.specs.Cmp.Lexicographic.{pointwise}
use Rattle.vms_text.specs.Common.{most_line, words_of}

-- the words of that line
abbrev pub history_words : List (List ℕ)
history_words = codes "history" ∷ codes "1" ∷ []

-- whether a line after `go` ends the trace: it isn't too long, and its words are `history` and `1`
abbrev pub is_history_line : List ℕ → Bool
is_history_line line = nat_le (length line) most_line && pointwise bytes_eq (words_of line) history_words
