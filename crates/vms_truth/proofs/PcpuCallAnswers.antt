-- What the answer of each call on the percpu counters tells.
use Rattle.std.proofs.Common.{◌≡◌, ◌≢◌, ℕ, ◌≤◌, Bool, true, false, ℤ, pos, ◌-ℤ◌, List, [], ◌∷◌, ◌++◌, length, Some}
use Rattle.std.proofs.Common.{None, refl, subst, arith, length-append, unsigned_abs}
use Rattle.vms_world.specs.Common.{CpuId, PcpuFacts, PcpuStep, percpu}
use Rattle.vms_base.specs.declared.ids.PcpuId.{PcpuId}
use Rattle.vms_history.proofs.Common.{last_in_row, prefix_is_legal}
use Rattle.vms_pcpu_core.specs.declared.answers.Compare.{Compare}
use Rattle.vms_pcpu_core.specs.declared.answers.PcpuAnswer.TheVariants as answer
use Rattle.vms_pcpu_core.specs.declared.pcpu_calls.PcpuCall.TheVariants as call
use Rattle.vms_pcpu_core.specs.declared.steps.PcpuStep.TheVariants.{LoadC}
use Rattle.vms_pcpu_core.specs.Histories.{History, IsLegal}
use Rattle.vms_pcpu_core.specs.Calls.{IsCompare, IsLimitedAdd, IsRead, present_cpus, unknown}
use Rattle.vms_pcpu_core.specs.MadeBetween.{MadeSteps, event}
use Rattle.vms_pcpu_core.specs.States.{batch_at}
use Rattle.vms_pcpu_core.specs.Calls.IsLimitedAdd.{locked, nothing, unlocked}
use Rattle.vms_pcpu_core.specs.Totals.{true_total}
use Rattle.vms_pcpu_core.proofs.Common.{compare-by_sum, limited-no, sum-call}
use Rattle.vms_percpu_near.specs.Adds.{AddsCarryNothing}
use Rattle.vms_percpu_near.proofs.CarriedParts.{adds-earlier, count-near}
use Rattle.vms_percpu_near.proofs.Limits.{limited-stays}
use Rattle.vms_percpu_near.proofs.RoughSigns.{compare-tells_sign}
use Rattle.vms_truth.specs.PcpuTruth.{ComparesTruly, CountIsTrue, PcpuCallsAnswerTruly}

-- an addition of another amount than 0 has a step
limited-some : (batch off : ℕ) (cpus : List CpuId) (cpu : CpuId) (j : PcpuId) (limit amount : ℤ)
    (steps : List PcpuStep) (made : Bool) → IsLimitedAdd batch off cpus cpu j limit amount steps made
    → amount ≢ pos 0 → 1 ≤ length steps
limited-some batch off cpus cpu j limit amount steps made (nothing none) some = absurd (some none)
limited-some batch off cpus cpu j limit amount steps made (unlocked l v other below room) some = omega arith
limited-some batch off cpus cpu j limit amount steps made
    (locked v told probing locking loads ending other probes locks judges ends) some = omega (
      arith,
      length-append (probing ++ locking) (LoadC j v ∷ (loads ++ ending)),
    )

limited-no_some : (batch off : ℕ) (cpus : List CpuId) (cpu : CpuId) (j : PcpuId) (limit amount : ℤ)
    (steps : List PcpuStep) (made : Bool) → made ≡ false
    → IsLimitedAdd batch off cpus cpu j limit amount steps made → amount ≢ pos 0
limited-no_some batch off cpus cpu j limit amount steps made denies (nothing none) same =
    let both : true ≡ false = denies in cc
limited-no_some batch off cpus cpu j limit amount steps made denies (unlocked l v other below room) same = other same
limited-no_some batch off cpus cpu j limit amount steps made denies
    (locked v told probing locking loads ending other probes locks judges ends) same = other same

count-is_true : (facts : PcpuFacts) (later earlier : History) (p : ℕ) (j : PcpuId) (steps : List PcpuStep) (count : ℤ)
    → IsRead j steps count → MadeSteps facts earlier later p steps → AddsCarryNothing later
    → CountIsTrue facts later earlier p j count
count-is_true facts later earlier p j steps count is has adds =
    let parts = last_in_row later earlier p [] (LoadC j count) has.goes_on
    (subst (λ (ks : List PcpuStep). MadeSteps facts earlier later p ks) is has).made in
    let newest = parts.0 in
    let legal : IsLegal facts (event p (LoadC j count) ∷ newest.before) =
    prefix_is_legal percpu facts newest.since (event p (LoadC j count) ∷ newest.before)
    (subst (IsLegal facts) newest.parts has.legal) in
    let free : AddsCarryNothing (event p (LoadC j count) ∷ newest.before) =
    adds-earlier later (event p (LoadC j count) ∷ newest.before) (newest.since, newest.parts) adds in
    record {
      moment = newest.before;
      loaded = record { since = parts.1; kept = (newest.since, newest.parts) };
      near = subst (λ (z : ℤ). unsigned_abs (z -ℤ true_total facts newest.before j.number) ≤ unknown facts j.number)
          legal.2.value (count-near facts newest.before legal.0 free.1 j.number legal.2.counter);
    }

compare-is_true : (facts : PcpuFacts) (later earlier : History) (p : ℕ) (j : PcpuId) (rhs : ℤ) (steps : List PcpuStep)
    (told : Compare) → IsCompare (unknown facts j.number) (present_cpus facts) j rhs steps told
    → MadeSteps facts earlier later p steps → AddsCarryNothing later
    → ComparesTruly facts later earlier p j rhs told told.rough
compare-is_true facts later earlier p j rhs steps told is has adds = by told.rough refl
  where
    by : (rough : Bool) → told.rough ≡ rough → ComparesTruly facts later earlier p j rhs told rough
    by true rough = compare-tells_sign facts earlier later p j rhs steps told has adds is rough
    by false exact = compare-by_sum facts earlier later p j rhs steps told has is exact

pub pcpu-answers_are_true : PcpuCallsAnswerTruly
pcpu-answers_are_true facts (Some c) (call.LimitedAdd j limit amount) p later earlier steps (answer.Limited true) is
    has adds idle owns = λ some. limited-stays facts earlier later p c j limit amount steps has adds some is
pcpu-answers_are_true facts (Some c) (call.LimitedAdd j limit amount) p later earlier steps (answer.Limited false) is
    has adds idle owns =
    let batch = batch_at facts.base j.number in
    let off = unknown facts j.number in
    let cpus = present_cpus facts in
    limited-no facts earlier later p c j limit amount steps has
    (owns c refl (limited-some batch off cpus c j limit amount steps false is
    (limited-no_some batch off cpus c j limit amount steps false refl is))) (idle.nothing_carried j.number) is
pcpu-answers_are_true facts (Some c) (call.Compare j rhs) p later earlier steps (answer.Compared told) is has adds idle
    owns = compare-is_true facts later earlier p j rhs steps told is has adds
pcpu-answers_are_true facts (Some c) (call.Sum j) p later earlier steps (answer.Total sum) is has adds idle owns =
    sum-call facts earlier later p j steps sum has is
pcpu-answers_are_true facts (Some c) (call.Read j) p later earlier steps (answer.Count count) is has adds idle owns =
    count-is_true facts later earlier p j steps count is has adds
pcpu-answers_are_true facts (Some c) (call.Add j amount) p later earlier steps answer.Done is has adds idle owns = tt
pcpu-answers_are_true facts (Some c) (call.Sync j) p later earlier steps answer.Done is has adds idle owns = tt
pcpu-answers_are_true facts None (call.FoldDead dead) p later earlier steps answer.Done is has adds idle owns = tt
pcpu-answers_are_true facts _ _ p later earlier steps _ is has adds idle owns = absurd is
