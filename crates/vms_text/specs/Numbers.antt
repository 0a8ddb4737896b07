-- Numbers as words spell them. Each number has one spelling.
use Rattle.std.specs.Prelude.{ℕ, suc, ◌^◌, ◌<◌, ◌≡◌, ◌↔◌, ◌==◌, nat_le, ◌&&◌, Bool, false, not, List, [], ◌∷◌, ℤ, pos}
use Rattle.std.specs.Prelude.{negsuc, if◌then◌else◌, ◌-◌, Option, Some, None, option_map}
use Rattle.std.specs.Fmt.{decimal, signed_decimal}
use Rattle.std.specs.Int.{w64}
use Rattle.std.specs.Int.RustNames.{FitsSigned}
use Rattle.std.specs.List.{list_all}
use Rattle.std.specs.Str.Parse.{digits_value}

-- `0` to `9`
abbrev pub is_digit : ℕ → Bool
is_digit byte = nat_le 48 byte && nat_le byte 57

-- digits of which the first isn't `0`, or `0` alone
abbrev pub is_numeral : List ℕ → Bool
is_numeral [] = false
is_numeral (byte ∷ []) = is_digit byte
is_numeral (byte ∷ bytes) = is_digit byte && not (byte == 48) && list_all is_digit bytes

-- the number that digits spell, if it is at most this one
abbrev pub digits_of : ℕ → List ℕ → Option ℕ
digits_of most word =
    if list_all is_digit word && nat_le (digits_value 10 word) most then Some (digits_value 10 word) else None

-- the number that a word spells, of any size
abbrev pub number_of : List ℕ → Option ℕ
number_of word = if is_numeral word then Some (digits_value 10 word) else None

-- the number that a word spells, if it is at least this and at most that
abbrev pub number_within : ℕ → ℕ → List ℕ → Option ℕ
number_within least most word =
    if is_numeral word && (nat_le least (digits_value 10 word) && nat_le (digits_value 10 word) most)
    then Some (digits_value 10 word)
    else None

-- the number of 64 bits that a word spells
abbrev pub unsigned_of : List ℕ → Option ℕ
unsigned_of word = number_within 0 (2 ^ 64 - 1) word

-- its negative, if it isn't 0
abbrev pub negative_of : Option ℕ → Option ℤ
negative_of (Some (suc n)) = Some (negsuc n)
negative_of _ = None

-- the signed number of 64 bits that a word spells: a number, or `-` and a number other than 0
abbrev pub signed_of : List ℕ → Option ℤ
signed_of [] = None
signed_of (byte ∷ bytes) =
    if byte == 45
    then negative_of (number_within 0 (2 ^ 63) bytes)
    else option_map pos (number_within 0 (2 ^ 63 - 1) (byte ∷ bytes))

-- a number has one spelling: its decimal digits
abbrev pub UnsignedReadsBack : Type 0
UnsignedReadsBack = (n : ℕ) (word : List ℕ) → n < 2 ^ 64 → (unsigned_of word ≡ Some n) ↔ (word ≡ decimal n)

-- a signed number has one spelling: its decimal digits, after `-` where it is negative
abbrev pub SignedReadsBack : Type 0
SignedReadsBack = (z : ℤ) (word : List ℕ) → FitsSigned w64 z → (signed_of word ≡ Some z) ↔ (word ≡ signed_decimal z)
