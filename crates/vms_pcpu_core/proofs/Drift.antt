-- For other crates too: the shared part alone is off from the true total by little.
use Rattle.std.proofs.Common.{◌≡◌, ℕ, zero, suc, ◌+◌, ◌*◌, ◌<◌, ◌≤◌, true, List, length, take, get_or, ℤ, pos, ◌≤ℤ◌}
use Rattle.std.proofs.Common.{unsigned_abs, refl, ap, arith}
use Rattle.std.specs.List.{count_by}
use Rattle.std.proofs.lemmas.Int.{ints}
use Rattle.std.proofs.lemmas.List.{take_all}
use Rattle.std.proofs.lemmas.List.Sums.{count_by_more_yes, count_by_more_no}
use Rattle.vms_history.specs.Common.{CpuState, Online, Dead, Absent, own, begun_in, sum_below, is_present}
use Rattle.vms_history.proofs.Common.{base_can_begin, sum_below-size}
use Rattle.vms_pcpu_core.specs.declared.steps.PcpuFacts.{PcpuFacts}
use Rattle.vms_pcpu_core.specs.Common.{batch_at, local_at, IsPcpu, unknown, carried, role, locals, present, percpu}
use Rattle.vms_pcpu_core.specs.Common.{History, IsLegal, numbers_after, DriftsLittle}
use Rattle.vms_pcpu_core.proofs.Bounds.{locals-bounded}
use Rattle.vms_pcpu_core.proofs.Sizes.{sizes}
use Rattle.vms_pcpu_core.proofs.Totals.{totals-kept}

-- a sum over CPUs in which each present one has at most b and an absent one nothing
pub present-bound : (cpus : List CpuState) (f : ℕ → ℤ) (b n : ℕ) → n ≤ length cpus
    → ((c : ℕ) → c < n → f c ≤ℤ pos b) → ((c : ℕ) → c < n → get_or cpus c Absent ≡ Absent → f c ≤ℤ pos 0)
    → sum_below f n ≤ℤ pos (b * count_by is_present (take n cpus))
present-bound cpus f b zero within below none = omega (arith, ints)
present-bound cpus f b (suc n) within below none =
    by (get_or cpus n Absent) refl
    (present-bound cpus f b n (omega arith) (λ c c_below. below c (omega arith)) (λ c c_below. none c (omega arith)))
  where
    next : n + 1 ≡ suc n
    next = omega arith

    counts : (is_present (get_or cpus n Absent) ≡ true) → sum_below f n ≤ℤ pos (b * count_by is_present (take n cpus))
        → sum_below f (suc n) ≤ℤ pos (b * count_by is_present (take (suc n) cpus))
    counts is rest =
        let more : count_by is_present (take (suc n) cpus) ≡ count_by is_present (take n cpus) + 1 =
        rw next at (count_by_more_yes is_present cpus n Absent (omega arith) is) in
        let product : b * (count_by is_present (take n cpus) + 1) ≡ b * count_by is_present (take n cpus) + b =
        omega arith in
        rw more (omega (arith, ints, product, below n (omega arith), rest))

    by : (x : CpuState) → get_or cpus n Absent ≡ x → sum_below f n ≤ℤ pos (b * count_by is_present (take n cpus))
        → sum_below f (suc n) ≤ℤ pos (b * count_by is_present (take (suc n) cpus))
    by Online is rest = counts (ap is_present is) rest
    by Dead is rest = counts (ap is_present is) rest
    by Absent is rest =
        let same : count_by is_present (take (suc n) cpus) ≡ count_by is_present (take n cpus) =
        rw next at (count_by_more_no is_present cpus n Absent (omega arith) (ap is_present is)) in
        rw same (omega (arith, ints, none n (omega arith) is, rest))

-- the local parts hide at most a batch for each CPU that is online or dead
pub locals-hide : (facts : PcpuFacts) (h : History) (j : ℕ) → IsLegal facts h → IsPcpu facts j
    → sizes (λ c. local_at (numbers_after facts h) c j) facts.layout.cpus ≤ℤ pos (batch_at facts.base j * present facts)
locals-hide facts h j legal j_in =
    let base = base_can_begin percpu facts h legal in
    let bounds = locals-bounded facts h legal in
    let all : take facts.layout.cpus facts.cpus ≡ facts.cpus =
    take_all facts.layout.cpus facts.cpus (omega (arith, base.lengths.one_state_each)) in
    rw all at (present-bound facts.cpus (λ c. pos (unsigned_abs (local_at (numbers_after facts h) c j)))
    (batch_at facts.base j) facts.layout.cpus
    (omega (arith, base.lengths.one_state_each))
    (λ c below. let within = bounds.within c j below j_in in omega (arith, ints))
    (λ c below absent. let none = bounds.absent c j below absent j_in in omega (arith, ints)))

-- the local parts together hide no more than `unknown`
pub locals-size : (facts : PcpuFacts) (h : History) (j : ℕ) → IsLegal facts h → IsPcpu facts j
    → pos (unsigned_abs (locals facts.layout (numbers_after facts h) j)) ≤ℤ pos (unknown facts j)
locals-size facts h j legal j_in =
    let size = sum_below-size (λ c. local_at (numbers_after facts h) c j) facts.layout.cpus in
    omega (arith, ints, size, locals-hide facts h j legal j_in)

pub counts-drift : (facts : PcpuFacts) (h : History) → IsLegal facts h → DriftsLittle facts h
counts-drift facts h legal j j_in =
    let kept = totals-kept facts h legal j j_in in
    let local_size = sum_below-size (λ c. local_at (numbers_after facts h) c j) facts.layout.cpus in
    let carried_size = sum_below-size (λ p. carried j (own h p)) (suc (begun_in role h)) in
    let hidden = locals-hide facts h j legal j_in in
    omega (arith, ints)
