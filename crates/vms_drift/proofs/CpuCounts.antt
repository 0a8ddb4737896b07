-- For other crates too: what the CPUs for which a test holds come to together.
use Rattle.std.proofs.Common.{◌≡◌, ℕ, suc, zero, ◌+◌, ◌*◌, Bool, true, false, arith, if◌then◌else◌}
use Rattle.vms_calls.specs.Common.{count_below}

-- so many for each of some
pub count-times : (holds : ℕ → Bool) (each n : ℕ) → count_below (λ c. if holds c then each else 0) n
    ≡ count_below (λ c. if holds c then 1 else 0) n * each
count-times holds each zero = omega arith
count-times holds each (suc n) = by (holds n) (count-times holds each n)
  where
    by : (b : Bool) → count_below (λ c. if holds c then each else 0) n
        ≡ count_below (λ c. if holds c then 1 else 0) n * each
        → (if b then each else 0) + count_below (λ c. if holds c then each else 0) n
        ≡ ((if b then 1 else 0) + count_below (λ c. if holds c then 1 else 0) n) * each
    by true rest =
        let more : (1 + count_below (λ c. if holds c then 1 else 0) n) * each
        ≡ each + count_below (λ c. if holds c then 1 else 0) n * each = omega arith in
        rw more (omega (arith, rest))
    by false rest = omega (arith, rest)
