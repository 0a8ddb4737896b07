-- For other crates too: a rough comparison tells the sign of the true total.
use Rattle.std.proofs.Common.{◌≡◌, ℕ, suc, zero, ◌<◌, ◌≤◌, true, List, ◌∷◌, ℤ, pos, negsuc, ◌-ℤ◌, unsigned_abs, refl}
use Rattle.std.proofs.Common.{sym, subst, ◌∙◌, arith}
use Rattle.std.proofs.lemmas.Int.{ints}
use Rattle.vms_history.specs.Common.{Extends, PcpuId}
use Rattle.vms_history.proofs.Common.{prefix_is_legal}
use Rattle.vms_pcpu_core.specs.declared.answers.Compare.{Compare}
use Rattle.vms_pcpu_core.specs.declared.steps.PcpuFacts.{PcpuFacts}
use Rattle.vms_pcpu_core.specs.declared.steps.PcpuStep.{PcpuStep}
use Rattle.vms_pcpu_core.specs.declared.steps.PcpuStep.TheVariants.{LoadC}
use Rattle.vms_pcpu_core.specs.Common.{History, IsCompare, IsLegal, MadeSteps, count_at, event, numbers_after, percpu}
use Rattle.vms_pcpu_core.specs.Common.{TellsRoughly, present_cpus, sign_of, true_total, unknown}
use Rattle.vms_pcpu_core.proofs.Common.{compare-rough}
use Rattle.vms_percpu_near.specs.Adds.{AddsCarryNothing}
use Rattle.vms_percpu_near.specs.Answers.{TellsSign}
use Rattle.vms_percpu_near.proofs.CarriedParts.{adds-earlier, count-near}

-- numbers that are further off than they differ have one sign
same-sign : (x y : ℤ) (u : ℕ) → u < unsigned_abs x → unsigned_abs (y -ℤ x) ≤ u → sign_of x ≡ sign_of y
same-sign (pos zero) y u far near = absurd (omega (arith, ints))
same-sign (pos (suc n)) (pos zero) u far near = absurd (omega (arith, ints))
same-sign (pos (suc n)) (pos (suc m)) u far near = refl
same-sign (pos (suc n)) (negsuc m) u far near = absurd (omega (arith, ints))
same-sign (negsuc n) (pos m) u far near = absurd (omega (arith, ints))
same-sign (negsuc n) (negsuc m) u far near = refl

pub compare-tells_sign : (facts : PcpuFacts) (earlier later : History) (p : ℕ) (j : PcpuId) (rhs : ℤ)
    (steps : List PcpuStep) (answer : Compare) → MadeSteps facts earlier later p steps → AddsCarryNothing later
    → IsCompare (unknown facts j.number) (present_cpus facts) j rhs steps answer → answer.rough ≡ true
    → TellsSign facts earlier later p j rhs answer
compare-tells_sign facts earlier later p j rhs steps answer calls adds is rough =
    let tells : TellsRoughly facts earlier later p j rhs answer =
    compare-rough facts earlier later p j rhs steps answer calls is rough in
    let load : History = event p (LoadC j tells.count) ∷ tells.loaded in
    let kept : Extends later load = tells.loads.kept in
    let legal : IsLegal facts load =
    prefix_is_legal percpu facts kept.0 load (subst (IsLegal facts) kept.1 calls.legal) in
    let free : AddsCarryNothing load = adds-earlier later load kept adds in
    let value : count_at (numbers_after facts tells.loaded) j.number ≡ tells.count = legal.2.value in
    let near : unsigned_abs (tells.count -ℤ true_total facts tells.loaded j.number) ≤ unknown facts j.number =
    subst (λ (v : ℤ). unsigned_abs (v -ℤ true_total facts tells.loaded j.number) ≤ unknown facts j.number) value
    (count-near facts tells.loaded legal.0 free.1 j.number legal.2.counter) in
    let by_count = same-sign (tells.count -ℤ rhs) (true_total facts tells.loaded j.number -ℤ rhs)
    (unknown facts j.number) tells.far (omega (arith, ints, near)) in
    record {
      count = tells.count;
      loaded = tells.loaded;
      loads = tells.loads;
      far = tells.far;
      near = near;
      sign = tells.sign ∙ sym (same-sign (tells.count -ℤ rhs) _ (unknown facts j.number) tells.far
          (omega (arith, ints, tells.hidden))) ∙ by_count;
    }
