-- A line as words.
use Rattle.std.specs.Prelude.{ℕ, ◌≡◌, ◌<◌, ◌≤◌, ◌-◌, ◌==◌, ◌&&◌, ◌||◌, nat_le, not, Bool, true, false, List, [], ◌∷◌}
use Rattle.std.specs.Prelude.{drop, get_or, length, take}
use Rattle.std.specs.List.{All, filter, join_with_byte, slice_split}

-- space, tab and byte 13
abbrev pub is_blank_byte : ℕ → Bool
is_blank_byte byte = (byte == 32) || (byte == 9) || (byte == 13)

-- bytes 33 to 126
abbrev pub is_word_byte : ℕ → Bool
is_word_byte byte = nat_le 33 byte && nat_le byte 126

-- neither a blank nor a byte of a word
abbrev pub is_wrong_byte : ℕ → Bool
is_wrong_byte byte = not (is_blank_byte byte || is_word_byte byte)

-- nothing stands in it
abbrev pub is_empty : List ℕ → Bool
is_empty [] = true
is_empty (byte ∷ bytes) = false

-- the words of a line: the longest runs of word bytes, whatever stands between them
abbrev pub words_of : List ℕ → List (List ℕ)
words_of line = filter (λ word. not (is_empty word)) (slice_split (λ byte. not (is_word_byte byte)) line)

-- the parts of a line between its spaces
abbrev pub space_parts : List ℕ → List (List ℕ)
space_parts line = slice_split (λ byte. byte == 32) line

-- words as they are written: one space between each two
abbrev pub joined : List (List ℕ) → List ℕ
joined words = join_with_byte 32 words

-- the first word of the bytes from `from` on stands from `begin` to `end`
pub record IsNextWord (line : List ℕ) (from begin end : ℕ) : Type 0 where
  pub after : from ≤ begin
  pub filled : begin < end
  pub within : end ≤ length line
  pub words : words_of (drop from line) ≡ take (end - begin) (drop begin line) ∷ words_of (drop end line)
  pub of_word_bytes : All (λ byte. is_word_byte byte ≡ true) (take (end - begin) (drop begin line))
  pub none_before : All (λ byte. is_word_byte byte ≡ false) (take (begin - from) (drop from line))
  pub ends : end < length line → is_word_byte (get_or line end 0) ≡ false
