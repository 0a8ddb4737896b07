-- Eight differentials in one word.
use Rattle.std.specs.Prelude.{ℕ, ◌≤ℤ◌, ℤ, pos, negsuc, List, map, slice_index_or}
use Rattle.std.specs.Int.{w8, w64, cast_signed, cast_unsigned, to_le_bytes, from_le_bytes}

-- what fits a signed byte
abbrev pub IsByte : ℤ → Type 0
IsByte z = (negsuc 127 ≤ℤ z) × (z ≤ℤ pos 127)

-- every entry fits a signed byte
abbrev pub AreBytes : List ℤ → Type 0
AreBytes values = (k : ℕ) → IsByte (slice_index_or values k (pos 0))

-- the word that has each of eight entries in a byte, in two's complement, the first in the lowest
unfoldable pub word_of_bytes : List ℤ → ℕ
word_of_bytes values = from_le_bytes w64 (map (cast_unsigned w8) values)

-- the eight entries in a word's bytes
unfoldable pub bytes_of_word : ℕ → List ℤ
bytes_of_word word = map (cast_signed w8) (to_le_bytes w64 word)
