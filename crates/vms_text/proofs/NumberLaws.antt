-- For other crates too: a number's one spelling.
use Rattle.std.proofs.Common.{ℕ, suc, zero, ◌≡◌, ◌<◌, ◌≤◌, ◌^◌, ◌-◌, ◌==◌, true, false, cond, List, [], ◌∷◌, Option}
use Rattle.std.proofs.Common.{Some, None, refl, subst, sym, ◌∙◌, ap, arith, rules, length, get_or, nat_le, ℤ, pos}
use Rattle.std.proofs.Common.{negsuc, option_map, w64, ◌↔◌}
use Rattle.std.proofs.lemmas.Bool.Decides.{nat_tests}
use Rattle.std.proofs.lemmas.Fmt.{decimal-digits_value, decimal_digit, decimal_nonempty, digits_decimal}
use Rattle.std.proofs.lemmas.Fmt.{digits_value-decimal, first_decimal}
use Rattle.std.proofs.lemmas.Int.{ints}
use Rattle.std.proofs.lemmas.Str.Parse.{IsDigitsTest, IsNumeralModel, numerals_by_value}
use Rattle.std.specs.Fmt.{decimal, signed_decimal}
use Rattle.std.specs.Int.RustNames.{FitsSigned}
use Rattle.std.specs.List.{list_all}
use Rattle.std.specs.Str.Parse.{digits_value}
use Rattle.vms_text.specs.Common.{is_digit, is_numeral, negative_of, number_within, signed_of, unsigned_of}
use Rattle.vms_text.proofs.Values.{number_within-is, number_within-le, numeral-digits}

digits_test : IsDigitsTest (λ word. list_all is_digit word ≡ true)
digits_test = search rules

own : IsNumeralModel (λ word. list_all is_digit word ≡ true) (digits_value 10)
own = numerals_by_value _ digits_test

numeral-nonempty : (word : List ℕ) → is_numeral word ≡ true → 0 < length word
numeral-nonempty [] numeral = absurd cc
numeral-nonempty (byte ∷ word) numeral = omega arith

numeral-first : (word : List ℕ) → is_numeral word ≡ true → get_or word 0 0 ≡ 48 → length word ≡ 1
numeral-first [] numeral leads = absurd cc
numeral-first (byte ∷ []) numeral leads = refl
numeral-first (byte ∷ next ∷ word) numeral leads = absurd (grind (arith, nat_tests))

numeral-from_digits : (word : List ℕ) → list_all is_digit word ≡ true → 0 < length word
    → (get_or word 0 0 ≡ 48 → length word ≡ 1) → is_numeral word ≡ true
numeral-from_digits [] digits some first = absurd (omega arith)
numeral-from_digits (byte ∷ []) digits some first = grind (arith, nat_tests)
numeral-from_digits (byte ∷ next ∷ word) digits some first = grind (arith, nat_tests)

decimal-numeral : (n : ℕ) → n < 2 ^ 64 → is_numeral (decimal n) ≡ true
decimal-numeral zero fits = rw (decimal_digit 0 (omega arith)) refl
decimal-numeral (suc n) fits =
    numeral-from_digits (decimal (suc n)) (digits_decimal own (suc n) fits) (decimal_nonempty (suc n) fits)
    (λ leads. absurd (omega (arith, first_decimal (suc n) (omega arith) fits, leads)))

pub number_within-decimal : (least most n : ℕ) → n < 2 ^ 64 → least ≤ n → n ≤ most
    → number_within least most (decimal n) ≡ Some n
number_within-decimal least most n fits large small =
    let above : nat_le least n ≡ true = grind (arith, nat_tests) in
    let within : nat_le n most ≡ true = grind (arith, nat_tests) in
    rw (digits_value-decimal own n fits, decimal-numeral n fits, above, within) refl

number_within-spelling : (least most n : ℕ) (word : List ℕ) → n < 2 ^ 64 → number_within least most word ≡ Some n
    → word ≡ decimal n
number_within-spelling least most n word fits some =
    let is = number_within-is least most word n some in
    let spelled =
    decimal-digits_value own word (numeral-digits word is.numeral) (numeral-nonempty word is.numeral)
    (numeral-first word is.numeral) (subst (λ value. value < 2 ^ 64) (sym is.value) fits) in
    sym spelled ∙ ap decimal is.value

pub unsigned_of-reads : (n : ℕ) (word : List ℕ) → n < 2 ^ 64 → (unsigned_of word ≡ Some n) ↔ (word ≡ decimal n)
unsigned_of-reads n word fits = (
  number_within-spelling 0 (2 ^ 64 - 1) n word fits,
  λ spelled. ap unsigned_of spelled
      ∙ number_within-decimal 0 (2 ^ 64 - 1) n fits (omega arith) (omega arith),
)

negative-spelling : (z : ℤ) (word : List ℕ) (size : Option ℕ) → number_within 0 (2 ^ 63) word ≡ size
    → negative_of size ≡ Some z → (45 ∷ word) ≡ signed_decimal z
negative-spelling z word None is some = absurd cc
negative-spelling z word (Some zero) is some = absurd cc
negative-spelling z word (Some (suc n)) is some =
    let small = number_within-le 0 (2 ^ 63) word (suc n) is in
    let same : negsuc n ≡ z = cc in
    let spelled = number_within-spelling 0 (2 ^ 63) (suc n) word (omega arith) is in
    ap (λ digits. 45 ∷ digits) spelled ∙ ap signed_decimal same

positive-spelling : (z : ℤ) (word : List ℕ) (size : Option ℕ) → number_within 0 (2 ^ 63 - 1) word ≡ size
    → option_map pos size ≡ Some z → word ≡ signed_decimal z
positive-spelling z word None is some = absurd cc
positive-spelling z word (Some n) is some =
    let small = number_within-le 0 (2 ^ 63 - 1) word n is in
    let same : pos n ≡ z = cc in
    let spelled = number_within-spelling 0 (2 ^ 63 - 1) n word (omega arith) is in
    spelled ∙ ap signed_decimal same

signed_of-spelling : (z : ℤ) (word : List ℕ) → signed_of word ≡ Some z → word ≡ signed_decimal z
signed_of-spelling z [] some = absurd cc
signed_of-spelling z (byte ∷ word) some =
    elim (byte == 45) as (λ b. byte == 45 ≡ b
    → cond b (negative_of (number_within 0 (2 ^ 63) word))
    (option_map pos (number_within 0 (2 ^ 63 - 1) (byte ∷ word))) ≡ Some z → (byte ∷ word) ≡ signed_decimal z) [
      | true ↦ λ is minus.
          let first : byte ≡ 45 = grind (arith, nat_tests) in
          ap (λ head. head ∷ word) first ∙ negative-spelling z word (number_within 0 (2 ^ 63) word) refl minus
      | false ↦ λ is plain. positive-spelling z (byte ∷ word) (number_within 0 (2 ^ 63 - 1) (byte ∷ word)) refl plain
    ] refl some

signed_of-plain : (word : List ℕ) → is_numeral word ≡ true
    → signed_of word ≡ option_map pos (number_within 0 (2 ^ 63 - 1) word)
signed_of-plain [] numeral = absurd cc
signed_of-plain (byte ∷ word) numeral =
    let digits = numeral-digits (byte ∷ word) numeral in
    let other : byte == 45 ≡ false = grind (arith, nat_tests) in
    rw other refl

signed_of-decimal : (z : ℤ) → FitsSigned w64 z → signed_of (signed_decimal z) ≡ Some z
signed_of-decimal (pos n) fits =
    let small : n ≤ 2 ^ 63 - 1 = omega (arith, ints) in
    signed_of-plain (decimal n) (decimal-numeral n (omega arith))
    ∙ ap (option_map pos) (number_within-decimal 0 (2 ^ 63 - 1) n (omega arith) (omega arith) small)
signed_of-decimal (negsuc n) fits =
    let small : suc n ≤ 2 ^ 63 = omega (arith, ints) in
    ap negative_of (number_within-decimal 0 (2 ^ 63) (suc n) (omega arith) (omega arith) small)

pub signed_of-reads : (z : ℤ) (word : List ℕ) → FitsSigned w64 z → (signed_of word ≡ Some z) ↔ (word ≡ signed_decimal z)
signed_of-reads z word fits = (signed_of-spelling z word, λ spelled. ap signed_of spelled ∙ signed_of-decimal z fits)
