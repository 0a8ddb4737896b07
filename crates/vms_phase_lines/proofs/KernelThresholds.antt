-- For other crates too: the kernel's normal formula gives thresholds.
use Rattle.std.proofs.Common.{◌≡◌, ℕ, zero, suc, ◌+◌, ◌*◌, ◌/◌, ◌^◌, ◌≤◌, nat_le, Bool, true, false, arith, sym, subst}
use Rattle.std.proofs.Common.{if◌then◌else◌, refl}
use Rattle.std.specs.Prelude.{min}
use Rattle.std.proofs.lemmas.Bool.Decides.{nat_tests}
use Rattle.std.proofs.Math.Nat.{mul-le-mul_right}
use Rattle.vms_base.specs.Numbers.{highest_bit}
use Rattle.vms_own_acts.specs.Common.{IsExactly}
use Rattle.vms_world.specs.Common.{GivesThresholds, bits_of, most_threshold, normal_threshold_of}

-- a number above 0 has a bit
bits-least : (k x : ℕ) → 1 ≤ x → 1 ≤ highest_bit (suc k) x
unfolding highest_bit
bits-least zero x some = by (nat_le (2 ^ 0) x) refl
  where
    by : (b : Bool) → nat_le (2 ^ 0) x ≡ b → 1 ≤ (if b then 1 else 0)
    by true is = omega arith
    by false is = grind (arith, nat_tests)
bits-least (suc k) x some = by (nat_le (2 ^ suc k) x) (bits-least k x some)
  where
    by : (b : Bool) → 1 ≤ highest_bit (suc k) x → 1 ≤ (if b then suc (suc k) else highest_bit (suc k) x)
    by true rest = omega arith
    by false rest = rest

threshold-least : (b c : ℕ) → 1 ≤ b → 1 ≤ 2 * b * (1 + c)
threshold-least b c some =
    let twice : 1 ≤ 2 * b = omega (arith, some) in
    let more : 1 * (1 + c) ≤ 2 * b * (1 + c) = mul-le-mul_right (1 + c) twice in
    omega (arith, more)

min-within : (a : ℕ) → 1 ≤ a → (1 ≤ min most_threshold a) × (min most_threshold a ≤ most_threshold)
min-within a some = (grind arith, grind arith)

pub normal-gives : GivesThresholds (IsExactly normal_threshold_of)
normal-gives size online t valid least most answered =
    let within = min-within (2 * bits_of online * (1 + bits_of (size.managed / 2 ^ 15)))
    (threshold-least (bits_of online) (bits_of (size.managed / 2 ^ 15)) (bits-least 63 online least)) in
    (subst (λ (n : ℕ). 1 ≤ n) (sym answered) within.0, subst (λ (n : ℕ). n ≤ most_threshold) (sym answered) within.1)
