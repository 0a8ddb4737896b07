-- For other crates too: what holds of a choice between two values by a test.
use Rattle.std.proofs.Common.{◌≡◌, ◌≢◌, zero, suc, Bool, true, false, ◌⊎◌, inl, inr, ℤ, pos, negsuc, ◌+ℤ◌, ◌-ℤ◌, refl}
use Rattle.std.proofs.Common.{arith, if◌then◌else◌}
use Rattle.std.proofs.lemmas.Int.{ints}

pub if-map : {X Y : Type 0} (f : X → Y) (b : Bool) (x y : X) → f (if b then x else y) ≡ (if b then f x else f y)
if-map f true x y = refl
if-map f false x y = refl

pub if-either : {X : Type 0} (b : Bool) (x : X) → (if b then x else x) ≡ x
if-either true x = refl
if-either false x = refl

pub if-never : {X : Type 0} (b : Bool) (x y : X) → (b ≡ true → ⊥) → (if b then x else y) ≡ y
if-never true x y never = absurd (never refl)
if-never false x y never = refl

-- what is taken away and what is taken are 0 together
pub if-cancels : (b : Bool) (left took : ℤ) → (b ≡ true → took ≡ left)
    → (if b then pos 0 -ℤ left else pos 0) +ℤ (if b then took else pos 0) ≡ pos 0
if-cancels true left took same = omega (arith, ints, same refl)
if-cancels false left took same = refl

-- an integer is 0 or not
pub zero_or_not : (z : ℤ) → (z ≡ pos 0) ⊎ (z ≢ pos 0)
zero_or_not (pos zero) = inl refl
zero_or_not (pos (suc n)) = inr (λ e. omega (arith, ints))
zero_or_not (negsuc n) = inr (λ e. omega (arith, ints))
