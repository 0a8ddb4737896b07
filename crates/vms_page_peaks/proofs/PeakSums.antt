-- What CPUs may hide of a zone together: how much at most, and what it is once the peak of one of them has changed.
use Rattle.std.proofs.Common.{◌≡◌, ◌≢◌, ℕ, zero, suc, ◌+◌, ◌*◌, ◌<◌, ◌≤◌, Bool, true, false, pos, arith, ap, refl}
use Rattle.std.proofs.Common.{nat_eq, eqb-true}
use Rattle.std.proofs.lemmas.Bool.{eqb-false}
use Rattle.std.proofs.lemmas.Int.{ints}
use Rattle.vms_history.specs.Common.{CpuState, Absent, Dead, Online, IsCpu, IsZone, count_below, most_threshold}
use Rattle.vms_history.proofs.Common.{base_can_begin, count_below-most, pos-count_below, sum_below-changed}
use Rattle.vms_core.specs.declared.steps.Facts.{Facts}
use Rattle.vms_core.specs.Common.{History, IsLegal, cpu_in, if_present, pages, peak, peak_sum}
use Rattle.vms_core.proofs.Common.{peaks-in_range}

-- what a CPU may hide of a zone
abbrev pub hidden : Facts → History → ℕ → ℕ → ℕ
hidden facts h g c = if_present (cpu_in facts c h) (peak facts c g h)

pub if_present-most : (x : CpuState) (n : ℕ) → if_present x n ≤ n
if_present-most Absent n = omega arith
if_present-most Online n = omega arith
if_present-most Dead n = omega arith

pub if_present-some : (x : CpuState) (n : ℕ) → x ≢ Absent → if_present x n ≡ n
if_present-some Absent n some = absurd (some refl)
if_present-some Online n some = refl
if_present-some Dead n some = refl

-- each number is at most the sum
pub count_below-each : (f : ℕ → ℕ) (n i : ℕ) → i < n → f i ≤ count_below f n
count_below-each f zero i below = absurd (omega arith)
count_below-each f (suc n) i below = by (nat_eq i n) refl (count_below-each f n i)
  where
    by : (b : Bool) → nat_eq i n ≡ b → (i < n → f i ≤ count_below f n) → f i ≤ f n + count_below f n
    by true last rest = let here : f i ≡ f n = ap f (eqb-true i n last) in omega arith
    by false other rest = let differ = eqb-false i n other in omega (arith, rest (omega arith))

-- g differs from f at k alone
pub count_below-changed : (f g : ℕ → ℕ) (k n : ℕ) → k < n → ((i : ℕ) → i < n → i ≢ k → g i ≡ f i)
    → count_below g n + f k ≡ count_below f n + g k
count_below-changed f g k n below same =
    let changed = sum_below-changed (λ i. pos (f i)) (λ i. pos (g i)) k n below
    (λ i i_in other. ap pos (same i i_in other))
    in
    omega (arith, ints, changed, pos-count_below f n, pos-count_below g n)

module _ (facts : Facts) (h : History) (legal : IsLegal facts h) (g : ℕ) (zone : IsZone facts.layout g) where
  pub peak-most : (c : ℕ) → IsCpu facts.layout c → peak facts c g h ≤ most_threshold
  peak-most c c_in = peaks-in_range facts h legal c g c_in (omega arith)

  pub peak_sum-most : peak_sum facts g h ≤ 128 * most_threshold
  peak_sum-most =
      let few = (base_can_begin pages facts h legal).layout.cpus_most in
      let most = count_below-most (hidden facts h g) facts.layout.cpus most_threshold
      (λ c c_in.
      let small = peak-most c c_in in
      omega (arith, if_present-most (cpu_in facts c h) (peak facts c g h))) in
      omega (arith, most)

-- what one CPU may hide is part of the sum
pub hidden-part : (facts : Facts) (h : History) (g c : ℕ) → IsCpu facts.layout c
    → hidden facts h g c ≤ peak_sum facts g h
hidden-part facts h g c c_in = count_below-each (hidden facts h g) facts.layout.cpus c c_in

-- and the sum moves with it, where the others hide what they did
pub peak_sum-moves : (facts : Facts) (h next : History) (g c : ℕ) → IsCpu facts.layout c
    → ((d : ℕ) → d ≢ c → hidden facts next g d ≡ hidden facts h g d)
    → peak_sum facts g next + hidden facts h g c ≡ peak_sum facts g h + hidden facts next g c
peak_sum-moves facts h next g c c_in same =
    count_below-changed (hidden facts h g) (hidden facts next g) c facts.layout.cpus c_in (λ d d_in other. same d other)
