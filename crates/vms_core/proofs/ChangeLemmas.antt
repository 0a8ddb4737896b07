-- For other crates too: a change under a threshold: it loses nothing, and leaves no more than the threshold.
use Rattle.std.proofs.Common.{◌≡◌, ℕ, ◌≤◌, Bool, true, false, ℤ, pos, neg_ℤ, ◌+ℤ◌, unsigned_abs, refl, arith}
use Rattle.std.proofs.Common.{if◌then◌else◌, nat_le}
use Rattle.std.proofs.lemmas.Int.{ints}
use Rattle.std.proofs.lemmas.Bool.Decides.{nat_tests}
use Rattle.vms_history.specs.Common.{Mode, Mod, Inc, Dec}
use Rattle.vms_core.specs.Common.{overstep_of, differential_after, carried_by}

overstep_of-within : (how : Mode) (t : ℕ) → unsigned_abs (neg_ℤ (overstep_of how t)) ≤ t
overstep_of-within Mod t = omega (arith, ints)
overstep_of-within Inc t = omega (arith, ints)
overstep_of-within Dec t = omega (arith, ints)

pub differential_after-within : (how : Mode) (t : ℕ) (found delta : ℤ)
    → unsigned_abs (differential_after how t found delta) ≤ t
differential_after-within how t found delta = by (nat_le (unsigned_abs (found +ℤ delta)) t) refl
  where
    by : (b : Bool) → nat_le (unsigned_abs (found +ℤ delta)) t ≡ b
        → unsigned_abs (if b then found +ℤ delta else neg_ℤ (overstep_of how t)) ≤ t
    by true below = grind (arith, nat_tests)
    by false above = overstep_of-within how t

pub differential_after-carried_by : (how : Mode) (t : ℕ) (found delta : ℤ)
    → differential_after how t found delta +ℤ carried_by how t found delta ≡ found +ℤ delta
differential_after-carried_by how t found delta = by (nat_le (unsigned_abs (found +ℤ delta)) t)
  where
    by : (b : Bool) → (if b then found +ℤ delta else neg_ℤ (overstep_of how t))
        +ℤ (if b then pos 0 else (found +ℤ delta) +ℤ overstep_of how t) ≡ found +ℤ delta
    by true = omega (arith, ints)
    by false = omega (arith, ints)
