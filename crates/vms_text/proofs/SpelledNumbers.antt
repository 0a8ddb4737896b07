-- For other crates too: numbers are read back from their digits.
use Rattle.std.proofs.Common.{ℕ, suc, ◌≡◌, ◌<◌, ◌≤◌, ◌^◌, ◌-◌, ◌&&◌, true, List, [], ◌∷◌, ℤ, pos, negsuc, Some, refl}
use Rattle.std.proofs.Common.{◌∙◌, ap, arith, w64, length}
use Rattle.std.proofs.lemmas.Bool.Decides.{nat_tests}
use Rattle.std.proofs.lemmas.Fmt.{decimal_nonempty, length-decimal-le}
use Rattle.std.proofs.lemmas.Int.{ints}
use Rattle.std.specs.Fmt.{decimal, signed_decimal}
use Rattle.std.specs.Int.RustNames.{FitsSigned}
use Rattle.std.specs.List.{list_all}
use Rattle.vms_text.specs.Common.{is_digit, signed_of, unsigned_of, is_word_byte}
use Rattle.vms_text.proofs.NumberLaws.{signed_of-reads, unsigned_of-reads}
use Rattle.vms_text.proofs.Values.{IsWithin, and_left, and_right, number_within-is, numeral-digits}
use Rattle.vms_text.proofs.Sentences.{is_short, is_short-from}

-- a number's digits spell it
pub decimal-is : (n : ℕ) → n < 2 ^ 64 → IsWithin 0 (2 ^ 64 - 1) (decimal n) n
decimal-is n fits = number_within-is 0 (2 ^ 64 - 1) (decimal n) n ((unsigned_of-reads n (decimal n) fits).1 refl)

pub unsigned_of-decimal : (n : ℕ) → n < 2 ^ 64 → unsigned_of (decimal n) ≡ Some n
unsigned_of-decimal n fits = (unsigned_of-reads n (decimal n) fits).1 refl

pub signed_of-spelled : (z : ℤ) → FitsSigned w64 z → signed_of (signed_decimal z) ≡ Some z
signed_of-spelled z fits = (signed_of-reads z (signed_decimal z) fits).1 refl

digit_byte : (byte : ℕ) → is_digit byte ≡ true → is_word_byte byte ≡ true
digit_byte byte is = grind (arith, nat_tests)

digit_bytes : (word : List ℕ) → list_all is_digit word ≡ true → list_all is_word_byte word ≡ true
digit_bytes [] digits = refl
digit_bytes (byte ∷ word) digits =
    ap (λ b. b && list_all is_word_byte word)
    (digit_byte byte (and_left (is_digit byte) (list_all is_digit word) digits))
    ∙ digit_bytes word (and_right (is_digit byte) (list_all is_digit word) digits)

decimal-bytes : (n : ℕ) → n < 2 ^ 64 → list_all is_word_byte (decimal n) ≡ true
decimal-bytes n fits = digit_bytes (decimal n) (numeral-digits (decimal n) (decimal-is n fits).numeral)

length-decimal-most : (n : ℕ) → n < 2 ^ 64 → length (decimal n) ≤ 20
length-decimal-most n fits = length-decimal-le 20 n (omega arith) (omega arith) fits

-- a number of 64 bits is a short word
pub decimal-short : (n : ℕ) → n < 2 ^ 64 → is_short (decimal n) ≡ true
decimal-short n fits =
    is_short-from (decimal n) (decimal_nonempty n fits) (decimal-bytes n fits)
    (omega (arith, length-decimal-most n fits))

-- so is it after a byte of a word
pub decimal-after : (byte n : ℕ) → is_word_byte byte ≡ true → n < 2 ^ 64 → is_short (byte ∷ decimal n) ≡ true
decimal-after byte n is fits =
    is_short-from (byte ∷ decimal n) (omega arith)
    (ap (λ b. b && list_all is_word_byte (decimal n)) is ∙ decimal-bytes n fits)
    (omega (arith, length-decimal-most n fits))

pub signed-short : (z : ℤ) → FitsSigned w64 z → is_short (signed_decimal z) ≡ true
signed-short (pos n) fits = decimal-short n (omega (arith, ints))
signed-short (negsuc n) fits = decimal-after 45 (suc n) refl (omega (arith, ints))
