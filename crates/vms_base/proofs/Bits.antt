-- A number's highest set bit is the power of two that it reaches, where it doesn't reach the next.
use Rattle.std.proofs.Common.{◌≡◌, ℕ, zero, suc, ◌+◌, ◌*◌, ◌^◌, ◌-◌, ◌<◌, ◌≤◌, nat_le, true, false, inl, inr, arith}
use Rattle.std.proofs.Math.Nat.{pow-le-pow_right, pow-succ'}
use Rattle.std.proofs.lemmas.Bool.Decides.{nat_tests}
use Rattle.std.proofs.lemmas.Bool.{cases_lt}
use Rattle.vms_base.specs.Numbers.{highest_bit}

-- half of what is below a power of two
pub half_power : (m x : ℕ) → 2 ^ m ≤ 2 * x + 1 → 0 < m → 2 ^ (m - 1) ≤ x
half_power zero x reached positive = omega arith
half_power (suc p) x reached positive =
    let less : suc p - 1 ≡ p = omega arith in rw less (omega (arith, pow-succ' 2 p))

-- what reaches one power of two and not another
between_powers : (p k x : ℕ) → x < 2 ^ k → 2 ^ p ≤ x → p < k
between_powers p k x above reached =
    elim (cases_lt p k) [
      | inl h ↦ h
      | inr h ↦ absurd (let steps : 2 ^ k ≤ 2 ^ p = pow-le-pow_right (omega arith) h in omega arith)
    ]

-- the place above the one that is known
highest_below : (most k x : ℕ) → k ≤ suc most → x < 2 ^ most → (0 < k → 2 ^ (k - 1) ≤ x) → k ≤ most
highest_below most k x within above least =
    elim (cases_lt most k) [
      | inl h ↦ absurd (let same : k - 1 ≡ most = omega arith in omega (arith, rw same at (least (omega arith))))
      | inr h ↦ h
    ]

pub highest_bit-unique : (most x k : ℕ) → k ≤ most → x < 2 ^ k → (0 < k → 2 ^ (k - 1) ≤ x) → k ≡ highest_bit most x
unfolding highest_bit
highest_bit-unique zero x k within above least = omega arith
highest_bit-unique (suc most) x k within above least =
    elim (cases_lt x (2 ^ most)) [
      | inl h ↦ let test : nat_le (2 ^ most) x ≡ false = grind (arith, nat_tests) in
          rw test (highest_bit-unique most x k (highest_below most k x within h least) above least)
      | inr h ↦ let test : nat_le (2 ^ most) x ≡ true = grind (arith, nat_tests) in
          rw test (omega (arith, between_powers most k x above h))
    ]
