-- The lists of the stories fit a word each.
use Rattle.std.proofs.Common.{◌≡◌, ◌≤◌, ℕ, suc, zero, nat_le, Bool, true, false, if◌then◌else◌, get_or, refl, arith}
use Rattle.std.proofs.lemmas.Bool.{leb-true}
use Rattle.std.proofs.lemmas.Int.{ints}
use Rattle.std.specs.Prelude.{ℤ, pos, negsuc, replicate}
use Rattle.vms_calls.specs.Common.{IsByte}
use Rattle.vms_model_trials.specs.Stories.{AreLists, kept}

zero-byte : IsByte (pos 0)
zero-byte = (omega (arith, ints), omega (arith, ints))

kept-byte : (z : ℤ) → IsByte (kept z)
kept-byte (pos n) = by (nat_le n 127) refl
  where
    by : (b : Bool) → nat_le n 127 ≡ b → IsByte (if b then pos n else pos 0)
    by true small = let within : n ≤ 127 = leb-true n 127 small in (omega (arith, ints), omega (arith, ints, within))
    by false large = zero-byte
kept-byte (negsuc n) = by (nat_le n 127) refl
  where
    by : (b : Bool) → nat_le n 127 ≡ b → IsByte (if b then negsuc n else pos 0)
    by true small = let within : n ≤ 127 = leb-true n 127 small in (omega (arith, ints, within), omega (arith, ints))
    by false large = zero-byte

zeros-byte : (n k : ℕ) → IsByte (get_or (replicate n (pos 0)) k (pos 0))
zeros-byte zero k = zero-byte
zeros-byte (suc n) zero = zero-byte
zeros-byte (suc n) (suc k) = zeros-byte n k

pub are_lists : AreLists
are_lists z zero = kept-byte z
are_lists z (suc k) = zeros-byte 7 k
