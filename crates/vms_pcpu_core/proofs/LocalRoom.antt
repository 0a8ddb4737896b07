-- What one local part leaves room for, and whose it is.
use Rattle.std.proofs.Common.{◌≡◌, ℕ, ◌≤◌, Bool, true, false, [], ◌∷◌, take, get_or, Some, ℤ, pos, ◌+ℤ◌, ◌-ℤ◌, ◌≤ℤ◌}
use Rattle.std.proofs.Common.{unsigned_abs, refl, sym, ap, subst, ◌∙◌, if◌then◌else◌, nat_eq, eq-eqb, eqb-true, arith}
use Rattle.std.proofs.lemmas.Int.{ints}
use Rattle.std.proofs.lemmas.Bool.{ne_eqb}
use Rattle.std.proofs.lemmas.List.{take_all}
use Rattle.vms_history.specs.Common.{CpuId, Online, Absent, IsCpu, Extends, owner_in, sum_below}
use Rattle.vms_history.proofs.Common.{Extends-both, owner_in-append, caller_is_given, base_can_begin, sum_below-changed}
use Rattle.vms_history.proofs.Common.{sum_below-size}
use Rattle.vms_pcpu_core.proofs.Bounds.{apart, locals-bounded}
use Rattle.vms_pcpu_core.specs.declared.steps.PcpuFacts.{PcpuFacts}
use Rattle.vms_pcpu_core.specs.declared.steps.PcpuStep.{PcpuStep}
use Rattle.vms_pcpu_core.specs.Common.{batch_at, local_at, cpu_at, IsPcpu, unknown, percpu, History, IsLegal}
use Rattle.vms_pcpu_core.specs.Common.{numbers_after, event, role, locals}
use Rattle.vms_pcpu_core.proofs.Drift.{present-bound}
use Rattle.vms_pcpu_core.proofs.SumMoments.{legal-earlier}

-- with one local part moved by an amount, within its batch, the local parts still hide no more than `unknown`
pub locals-moved : (facts : PcpuFacts) (h : History) (c j : ℕ) (a : ℤ) → IsLegal facts h → IsPcpu facts j
    → IsCpu facts.layout c
    → cpu_at facts c ≡ Online → unsigned_abs (local_at (numbers_after facts h) c j +ℤ a) ≤ batch_at facts.base j
    → pos (unsigned_abs (locals facts.layout (numbers_after facts h) j +ℤ a)) ≤ℤ pos (unknown facts j)
locals-moved facts h c j a legal j_in c_in online within =
    let base = base_can_begin percpu facts h legal in
    let bounds = locals-bounded facts h legal in
    let old : ℕ → ℤ = λ k. local_at (numbers_after facts h) k j in
    let moved : ℕ → ℤ = λ k. if nat_eq k c then old k +ℤ a else old k in
    let all : take facts.layout.cpus facts.cpus ≡ facts.cpus =
    take_all facts.layout.cpus facts.cpus (omega (arith, base.lengths.one_state_each)) in
    let here : moved c ≡ old c +ℤ a = ap (λ (b : Bool). if b then old c +ℤ a else old c) (eq-eqb c c refl) in
    let sum : sum_below moved facts.layout.cpus ≡ sum_below old facts.layout.cpus +ℤ (moved c -ℤ old c) =
    sum_below-changed old moved c facts.layout.cpus c_in
    (λ k below other. ap (λ (b : Bool). if b then old k +ℤ a else old k) (ne_eqb k c other)) in
    let size = sum_below-size moved facts.layout.cpus in
    let bound : sum_below (λ k. pos (unsigned_abs (moved k))) facts.layout.cpus ≤ℤ pos (unknown facts j) =
    rw all at (present-bound facts.cpus (λ k. pos (unsigned_abs (moved k))) (batch_at facts.base j) facts.layout.cpus
    (omega (arith, base.lengths.one_state_each))
    (λ k below. at_most (nat_eq k c) k refl (bounds.within k j below j_in))
    (λ k below absent. at_none (nat_eq k c) k refl absent (bounds.absent k j below absent j_in))) in
    omega (arith, ints, sum, here, size, bound)
  where
    at_most : (b : Bool) (k : ℕ) → nat_eq k c ≡ b
        → unsigned_abs (local_at (numbers_after facts h) k j) ≤ batch_at facts.base j
        → pos (unsigned_abs (if b then local_at (numbers_after facts h) k j +ℤ a else local_at (numbers_after facts h) k
        j))
        ≤ℤ pos (batch_at facts.base j)
    at_most true k same below =
        let is : k ≡ c = eqb-true k c same in
        let moved : unsigned_abs (local_at (numbers_after facts h) k j +ℤ a) ≤ batch_at facts.base j = rw is within in
        omega (arith, ints)
    at_most false k other below = omega (arith, ints)

    at_none : (b : Bool) (k : ℕ) → nat_eq k c ≡ b → get_or facts.cpus k Absent ≡ Absent
        → local_at (numbers_after facts h) k j ≡ pos 0
        → pos (unsigned_abs (if b then local_at (numbers_after facts h) k j +ℤ a else local_at (numbers_after facts h) k
        j)) ≤ℤ pos 0
    at_none true k same absent none =
        absurd (apart (subst (λ i. get_or facts.cpus i Absent ≡ Online) (sym (eqb-true k c same)) online) absent)
    at_none false k other absent none = omega (arith, ints)

-- the CPU that a pass owns in a later history it owned when it acted
pub owner-then : (facts : PcpuFacts) (later h : History) (p : ℕ) (k : PcpuStep) (cpu : CpuId) → IsLegal facts later
    → Extends later (event p k ∷ h) → owner_in role later p ≡ Some cpu → owner_in role h p ≡ Some cpu
owner-then facts later h p k cpu legal more owner =
    let acted : IsLegal facts (event p k ∷ h) = legal-earlier facts later (event p k ∷ h) legal more in
    let below : Extends later h = Extends-both later (event p k ∷ h) h more (event p k ∷ [], refl) in
    let stays =
    owner_in-append percpu facts below.0 h p (subst (IsLegal facts) below.1 legal)
    (caller_is_given percpu facts h p (role k) acted.0 acted.1) in
    sym stays ∙ ap (λ es. owner_in role es p) (sym below.1) ∙ owner
