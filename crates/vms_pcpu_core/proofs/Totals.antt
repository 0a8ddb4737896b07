-- For other crates too: nothing is lost. The shared part, the local parts and what is carried add up to the true
-- total.
use Rattle.std.proofs.Common.{◌≡◌, ℕ, suc, ◌<◌, [], ◌∷◌, Option, Some, ℤ, pos, ◌+ℤ◌, refl, arith}
use Rattle.std.proofs.lemmas.Int.{ints}
use Rattle.vms_history.specs.Common.{CpuId, IsCpu, own, owner_in, begun_in, sum_below}
use Rattle.vms_history.specs.declared.events.Event.{Event}
use Rattle.vms_history.proofs.Common.{sum_below-callers, owner_may_own, caller_is_below, sum_below-same}
use Rattle.vms_history.proofs.Common.{sum_below-changed, sum_below-zeros}
use Rattle.vms_pcpu_core.specs.declared.steps.PcpuFacts.{PcpuFacts}
use Rattle.vms_pcpu_core.specs.declared.steps.PcpuStep.{PcpuStep}
use Rattle.vms_pcpu_core.specs.Common.{count_at, local_at, IsPcpu, carried, role, locals, true_total, percpu, History}
use Rattle.vms_pcpu_core.specs.Common.{IsLegal, state_after, numbers_after, KeepsTotals}
use Rattle.vms_pcpu_core.proofs.Changes.{Change, IsChange, change-step}
use Rattle.vms_pcpu_core.proofs.Changes.Change.{rests, grows, takes, adds}
use Rattle.vms_pcpu_core.proofs.Shapes.{HasShape-state_after}

-- who owns a CPU owns one of the layout
pub owned : (facts : PcpuFacts) (h : History) (p : ℕ) (d : CpuId) → IsLegal facts h → owner_in role h p ≡ Some d
    → IsCpu facts.layout d.number
owned facts h p d legal is = (owner_may_own percpu facts h p d legal is).0

-- the newest event of a legal history, as a change of a counter
pub newest-change : (facts : PcpuFacts) (e : Event PcpuStep) (h : History) (j : ℕ) (legal : IsLegal facts (e ∷ h))
    (j_in : IsPcpu facts j)
    → IsChange facts h (state_after facts h) e.caller (HasShape-state_after facts h legal.0) j j_in
    (owner_in role h e.caller) e.step
newest-change facts e h j legal j_in =
    change-step facts h (state_after facts h) e.caller (HasShape-state_after facts h legal.0) j j_in
    (owner_in role h e.caller) e.step
    refl (λ d is. owned facts h e.caller d legal.0 is) legal.2

change-adds_up : (cpus batch : ℕ) (who : Option CpuId) (count count' : ℤ) (local local' : ℕ → ℤ)
    (carrying carrying' amount : ℤ)
    → Change cpus who batch count count' local local' carrying carrying' amount
    → (count' +ℤ sum_below local' cpus) +ℤ carrying' ≡ ((count +ℤ sum_below local cpus) +ℤ carrying) +ℤ amount
change-adds_up cpus batch who count count' local local' carrying carrying' amount (rests counts same carries none) =
    omega (arith, ints, counts, sum_below-same local' local cpus (λ c below. same c), carries, none)
change-adds_up cpus batch who count count' local local' carrying carrying' amount
    (grows d is d_in counts others here within carries) =
    omega (
      arith,
      ints,
      counts,
      sum_below-changed local local' d.number cpus d_in
          (λ c below other. others c other),
      here,
      carries,
    )
change-adds_up cpus batch who count count' local local' carrying carrying' amount
    (takes d d_in counts others here carries none) =
    omega (
      arith,
      ints,
      counts,
      sum_below-changed local local' d.number cpus d_in
          (λ c below other. others c other),
      here,
      carries,
      none,
    )
change-adds_up cpus batch who count count' local local' carrying carrying' amount (adds counts same carries control) =
    omega (arith, ints, counts, sum_below-same local' local cpus (λ c below. same c), carries)

kept-below : (facts : PcpuFacts) (h : History) (j n : ℕ) → IsLegal facts h → IsPcpu facts j → begun_in role h < n
    → (count_at (numbers_after facts h) j +ℤ locals facts.layout (numbers_after facts h) j)
    +ℤ sum_below (λ p. carried j (own h p)) n
    ≡ true_total facts h j
kept-below facts [] j n legal j_in above = omega (arith, ints, sum_below-zeros (λ p. pos 0) n (λ p below. refl))
kept-below facts (e ∷ h) j n legal j_in above =
    let below = caller_is_below percpu facts e h n legal above in
    let change =
    change-adds_up facts.layout.cpus _ _ (count_at (numbers_after facts h) j) (count_at (numbers_after facts (e ∷ h)) j)
    (λ c. local_at (numbers_after facts h) c j) (λ c. local_at (numbers_after facts (e ∷ h)) c j) _ _ _
    (newest-change facts e h j legal j_in) in
    let callers = sum_below-callers (carried j) e h n below.0 in
    omega (arith, ints, change, callers, kept-below facts h j n legal.0 j_in below.1)

pub totals-kept : (facts : PcpuFacts) (h : History) → IsLegal facts h → KeepsTotals facts h
totals-kept facts h legal j j_in = kept-below facts h j (suc (begun_in role h)) legal j_in (omega arith)
