-- For other crates too: numbers that words spell lie in their ranges.
use Rattle.std.proofs.Common.{ℕ, ◌≡◌, ◌≤◌, ◌^◌, ◌-◌, ◌&&◌, ◌==◌, Bool, true, false, cond, List, [], ◌∷◌, Option, Some}
use Rattle.std.proofs.Common.{None, refl, arith, nat_le, ℤ, pos, negsuc, suc, zero, subst, option_map, w64}
use Rattle.std.proofs.lemmas.Bool.Decides.{nat_tests}
use Rattle.std.proofs.lemmas.Int.{ints}
use Rattle.std.specs.Int.RustNames.{FitsSigned}
use Rattle.std.specs.List.{list_all}
use Rattle.std.specs.Str.Parse.{digits_value}
use Rattle.vms_text.specs.Common.{is_digit, is_numeral, negative_of, number_within, signed_of}

pub if_some : {A : Type 0} (b : Bool) (x y : A) → cond b (Some x) None ≡ Some y → (b ≡ true) × (x ≡ y)
if_some true x y some = (refl, cc)
if_some false x y some = absurd cc

pub and_left : (a b : Bool) → (a && b) ≡ true → a ≡ true
and_left true b both = refl
and_left false b both = absurd cc

pub and_right : (a b : Bool) → (a && b) ≡ true → b ≡ true
and_right true b both = both
and_right false b both = absurd cc

below : (most value n : ℕ) → nat_le value most ≡ true → value ≡ n → n ≤ most
below most value n small is = grind (arith, nat_tests)

pub numeral-digits : (word : List ℕ) → is_numeral word ≡ true → list_all is_digit word ≡ true
numeral-digits [] numeral = refl
numeral-digits (byte ∷ []) numeral = grind (arith, nat_tests)
numeral-digits (byte ∷ next ∷ word) numeral = grind (arith, nat_tests)

-- a number that is read, its spelling and its bounds
pub record IsWithin (least most : ℕ) (word : List ℕ) (n : ℕ) : Type 0 where
  pub numeral : is_numeral word ≡ true
  pub value : digits_value 10 word ≡ n
  pub least_is : least ≤ n
  pub most_is : n ≤ most

pub number_within-is : (least most : ℕ) (word : List ℕ) (n : ℕ) → number_within least most word ≡ Some n
    → IsWithin least most word n
number_within-is least most word n some =
    let value = digits_value 10 word in
    let parts = if_some (is_numeral word && (nat_le least value && nat_le value most)) value n some in
    let bounds = and_right (is_numeral word) (nat_le least value && nat_le value most) parts.0 in
    let small = and_left (nat_le least value) (nat_le value most) bounds in
    record {
      numeral = and_left (is_numeral word) (nat_le least value && nat_le value most) parts.0;
      value = parts.1;
      least_is = grind (arith, nat_tests, small, parts.1);
      most_is = below most value n (and_right (nat_le least value) (nat_le value most) bounds) parts.1;
    }

pub number_within-le : (least most : ℕ) (word : List ℕ) (n : ℕ) → number_within least most word ≡ Some n → n ≤ most
number_within-le least most word n some = (number_within-is least most word n some).most_is

negative_of-fits : (size : Option ℕ) (z : ℤ) → ((n : ℕ) → size ≡ Some n → n ≤ 2 ^ 63) → negative_of size ≡ Some z
    → FitsSigned w64 z
negative_of-fits None z bound some = absurd cc
negative_of-fits (Some zero) z bound some = absurd cc
negative_of-fits (Some (suc n)) z bound some =
    let is : negsuc n ≡ z = cc in
    subst (FitsSigned w64) is (omega (arith, ints, bound (suc n) refl))

positive-fits : (size : Option ℕ) (z : ℤ) → ((n : ℕ) → size ≡ Some n → n ≤ 2 ^ 63 - 1) → option_map pos size ≡ Some z
    → FitsSigned w64 z
positive-fits None z bound some = absurd cc
positive-fits (Some n) z bound some =
    let is : pos n ≡ z = cc in
    subst (FitsSigned w64) is (omega (arith, ints, bound n refl))

-- a signed number has 64 bits
pub signed_of-fits : (word : List ℕ) (z : ℤ) → signed_of word ≡ Some z → FitsSigned w64 z
signed_of-fits [] z some = absurd cc
signed_of-fits (byte ∷ word) z some =
    elim (byte == 45) as (λ b.
    cond b (negative_of (number_within 0 (2 ^ 63) word))
    (option_map pos (number_within 0 (2 ^ 63 - 1) (byte ∷ word))) ≡ Some z → FitsSigned w64 z) [
      | true ↦ λ minus. negative_of-fits (number_within 0 (2 ^ 63) word) z (number_within-le 0 (2 ^ 63) word) minus
      | false ↦ λ plain. positive-fits (number_within 0 (2 ^ 63 - 1) (byte ∷ word)) z
          (number_within-le 0 (2 ^ 63 - 1) (byte ∷ word)) plain
    ] some
