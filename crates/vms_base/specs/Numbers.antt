-- Numbers as words, and the kernel's `fls`.
use Rattle.std.specs.Prelude.{ℕ, zero, suc, ◌^◌, nat_le, ℤ, if◌then◌else◌}
use Rattle.std.specs.Int.{cast_unsigned, cast_signed, w64}

-- the two's-complement word of 64 bits
abbrev pub word_of : ℤ → ℕ
word_of z = cast_unsigned w64 z

-- the signed number with this word
abbrev pub signed_of_word : ℕ → ℤ
signed_of_word w = cast_signed w64 w

-- the largest k up to a limit for which 2 ^ (k - 1) is at most x, and 0 where there is none
unfoldable pub highest_bit : ℕ → ℕ → ℕ
highest_bit zero x = 0
highest_bit (suc k) x = if nat_le (2 ^ k) x then suc k else highest_bit k x

-- the position of the highest set bit of a number below 2^64, counted from 1, and 0 of 0
abbrev pub bits_of : ℕ → ℕ
bits_of x = highest_bit 64 x
