-- Amounts that are moved, and added, where a test holds.
use Rattle.std.proofs.Common.{◌≡◌, Bool, true, false, if◌then◌else◌, ℤ, pos, neg_ℤ, ◌+ℤ◌, refl, arith}
use Rattle.std.proofs.lemmas.Int.{ints}

pub if-neg : (b : Bool) (d : ℤ) → (if b then neg_ℤ d else pos 0) ≡ neg_ℤ (if b then d else pos 0)
if-neg true d = refl
if-neg false d = refl

pub if-neg_zero : (b : Bool) → (if b then neg_ℤ (pos 0) else pos 0) ≡ pos 0
if-neg_zero true = refl
if-neg_zero false = refl

pub if-zero_more : (b : Bool) (x : ℤ) → (if b then pos 0 else pos 0) +ℤ x ≡ x
if-zero_more true x = omega (arith, ints)
if-zero_more false x = omega (arith, ints)

-- what is added after it was moved leaves the rest
pub if-cancelled : (b : Bool) (d x : ℤ)
    → (if b then neg_ℤ d else pos 0) +ℤ ((if b then d else pos 0) +ℤ x) ≡ x
if-cancelled true d x = omega (arith, ints)
if-cancelled false d x = omega (arith, ints)
