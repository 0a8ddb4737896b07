-- Digits read from the left.
use Rattle.std.proofs.Common.{ℕ, ◌≡◌, ◌+◌, ◌*◌, ◌<◌, ◌≤◌, ◌&&◌, ◌-◌, true, false, cond, List, [], ◌∷◌, Option, Some}
use Rattle.std.proofs.Common.{None, refl, sym, ◌∙◌, ap, arith, nat_le, get_or, drop, length}
use Rattle.std.proofs.lemmas.Bool.Decides.{nat_tests}
use Rattle.std.proofs.lemmas.List.{at_drop_more, at_drop_all}
use Rattle.std.specs.List.{list_all}
use Rattle.std.specs.Char.{digit_value}
use Rattle.std.specs.Str.Parse.{digits_value_after}
use Rattle.vms_text.specs.Common.{is_digit}

-- the number that digits spell after those of this value, if it is at most this one
abbrev pub digits_from : ℕ → ℕ → List ℕ → Option ℕ
digits_from most value bytes =
    cond (list_all is_digit bytes && nat_le (digits_value_after 10 value bytes) most)
    (Some (digits_value_after 10 value bytes)) None

digits_value_after-le : (value : ℕ) (bytes : List ℕ) → value ≤ digits_value_after 10 value bytes
digits_value_after-le value [] = omega arith
digits_value_after-le value (byte ∷ bytes) =
    omega (arith, digits_value_after-le (value * 10 + digit_value byte) bytes)

digit_value-is : (byte : ℕ) → is_digit byte ≡ true → digit_value byte ≡ byte - 48
digit_value-is byte digit = grind (arith, nat_tests)

pub digits_from-past : (most value : ℕ) (bytes : List ℕ) → most < value → digits_from most value bytes ≡ None
digits_from-past most value bytes past =
    let e = digits_value_after-le value bytes in grind (arith, nat_tests)

digits_from-cons : (most value byte : ℕ) (bytes : List ℕ) → is_digit byte ≡ true
    → digits_from most value (byte ∷ bytes) ≡ digits_from most (value * 10 + (byte - 48)) bytes
digits_from-cons most value byte bytes digit =
    rw (digit, digit_value-is byte digit) refl

-- at a digit
pub digits_from-digit : (most value : ℕ) (bytes : List ℕ) (i byte : ℕ) → i < length bytes → byte ≡ get_or bytes i byte
    → is_digit byte ≡ true
    → digits_from most value (drop i bytes) ≡ digits_from most (value * 10 + (byte - 48)) (drop (i + 1) bytes)
digits_from-digit most value bytes i byte below is digit =
    at_drop_more (digits_from most value) bytes i byte below
    ∙ ap (λ first. digits_from most value (first ∷ drop (i + 1) bytes)) (sym is)
    ∙ digits_from-cons most value byte (drop (i + 1) bytes) digit

-- at another byte
pub digits_from-other : (most value : ℕ) (bytes : List ℕ) (i byte : ℕ) → i < length bytes → byte ≡ get_or bytes i byte
    → is_digit byte ≡ false → digits_from most value (drop i bytes) ≡ None
digits_from-other most value bytes i byte below is other =
    at_drop_more (digits_from most value) bytes i byte below
    ∙ ap (λ first. digits_from most value (first ∷ drop (i + 1) bytes)) (sym is)
    ∙ rw other refl

-- at the end
pub digits_from-end : (most value : ℕ) (bytes : List ℕ) (i : ℕ) → length bytes ≤ i → value ≤ most
    → digits_from most value (drop i bytes) ≡ Some value
digits_from-end most value bytes i done within =
    at_drop_all (digits_from most value) bytes i done ∙ grind (arith, nat_tests)

-- at a digit that makes the number too large
pub digits_from-large : (most value : ℕ) (bytes : List ℕ) (i : ℕ) → i < length bytes
    → is_digit (get_or bytes i 0) ≡ true → most < value * 10 + (get_or bytes i 0 - 48)
    → None ≡ digits_from most value (drop i bytes)
digits_from-large most value bytes i below digit large =
    sym (at_drop_more (digits_from most value) bytes i 0 below
    ∙ digits_from-cons most value (get_or bytes i 0) (drop (i + 1) bytes) digit
    ∙ digits_from-past most (value * 10 + (get_or bytes i 0 - 48)) (drop (i + 1) bytes) large)
