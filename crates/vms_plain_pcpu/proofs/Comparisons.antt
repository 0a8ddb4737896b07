-- What a comparison answers, by the shared part alone and by the sum.
use Rattle.std.proofs.Common.{◌≡◌, ◌<◌, ◌≤◌, ℕ, zero, suc, true, false, List, ℤ, pos, negsuc, ◌-ℤ◌, unsigned_abs, refl}
use Rattle.std.proofs.Common.{arith, w8, to_z, of_z}
use Rattle.std.proofs.lemmas.Int.{ints}
use Rattle.vms_history.specs.Common.{CpuState}
use Rattle.vms_pcpu_core.specs.declared.states.PcpuState.{PcpuState}
use Rattle.vms_pcpu_core.specs.Common.{sign_of, count_at}
use Rattle.vms_plain_pcpu.specs.Common.{ComparesTotal, HasRoomFor, total_in, unknown_in}
use Rattle.vms_plain_pcpu.proofs.LocalSums.{locals_over-unknown}
use Rattle.vms_plain_pcpu.proofs.SumSteps.{sign_of-same}

-- a sign as a word of 8 bits
pub same_sign : (z : ℤ) → to_z w8 (of_z w8 (sign_of z)) ≡ sign_of z
same_sign (pos zero) = refl
same_sign (pos (suc n)) = refl
same_sign (negsuc n) = refl

module _ (s : PcpuState) (states : List CpuState) (j : ℕ) (rhs : ℤ) where
  pub ComparesTotal-far : HasRoomFor s j → unknown_in s states j < unsigned_abs (count_at s j -ℤ rhs)
      → ComparesTotal s states j rhs (record { sign = sign_of (count_at s j -ℤ rhs); rough = true })
  ComparesTotal-far has far =
      let hidden = locals_over-unknown s j has states in
      record {
        sign = sign_of-same (count_at s j -ℤ rhs) (total_in s states j -ℤ rhs) (unknown_in s states j) far
            (omega (arith, ints, hidden));
        rough = (λ yes. far, λ yes. refl);
      }

  pub ComparesTotal-near : unsigned_abs (count_at s j -ℤ rhs) ≤ unknown_in s states j
      → ComparesTotal s states j rhs (record { sign = sign_of (total_in s states j -ℤ rhs); rough = false })
  ComparesTotal-near near = record {
    sign = refl;
    rough = (λ yes. absurd cc, λ far. absurd (omega (arith, near, far)));
  }
