-- What a rough comparison and a yes of a limited addition tell of the true total.
use Rattle.std.specs.Prelude.{◌≡◌, ℕ, ◌<◌, ◌≤◌, ℤ, pos, ◌+ℤ◌, ◌-ℤ◌, ◌≤ℤ◌, ◌<ℤ◌, List, [], ◌∷◌, unsigned_abs}
use Rattle.vms_history.specs.Common.{PcpuId, after, own}
use Rattle.vms_pcpu_core.specs.declared.answers.Compare.{Compare}
use Rattle.vms_pcpu_core.specs.declared.steps.PcpuFacts.{PcpuFacts}
use Rattle.vms_pcpu_core.specs.declared.steps.PcpuStep.{PcpuStep}
use Rattle.vms_pcpu_core.specs.declared.steps.PcpuStep.TheVariants.{LoadC}
use Rattle.vms_pcpu_core.specs.Common.{sign_of, unknown, History, by_others_between, fall, rise, event, carried}
use Rattle.vms_pcpu_core.specs.Common.{amount_of, true_total}
use Rattle.vms_pcpu_core.specs.MadeBetween.{MadeBetween}

-- a rough comparison tells the sign of the true total, less the other number, of the moment when it loaded the shared
-- part: that was further off from the other number than from the true total
pub record TellsSign (facts : PcpuFacts) (earlier later : History) (p : ℕ) (j : PcpuId) (rhs : ℤ) (answer : Compare)
    : Type 0 where
  pub count : ℤ
  pub loaded : History
  pub loads : MadeBetween earlier later p (LoadC j count) loaded
  pub far : unknown facts j.number < unsigned_abs (count -ℤ rhs)
  pub near : unsigned_abs (count -ℤ true_total facts loaded j.number) ≤ unknown facts j.number
  pub sign : answer.sign ≡ sign_of (true_total facts loaded j.number -ℤ rhs)

-- none of these steps loads a shared part
abbrev pub LoadsNoCount : List PcpuStep → Type 0
LoadsNoCount [] = Unit {0}
LoadsNoCount (LoadC j v ∷ steps) = ⊥
LoadsNoCount (step ∷ steps) = LoadsNoCount steps

-- what a yes leaves: the true total after the call's own change is past the limit at most by the changes of others that
-- went the same way since the call loaded the count for the last time
pub record StaysWithinLimit (facts : PcpuFacts) (earlier later : History) (p : ℕ) (j : PcpuId) (limit amount : ℤ)
    : Type 0 where
  -- the first step, and what stood before it
  pub first : PcpuStep
  pub begun : History
  pub begins : MadeBetween earlier later p first begun
  pub nothing_before : own begun p ≡ own earlier p
  -- the last load of the count, and what stood before it
  pub count : ℤ
  pub loaded : History
  pub loads : MadeBetween begun later p (LoadC j count) loaded
  -- the step that has the amount, what stood before it, and what after it
  pub change : PcpuStep
  pub unchanged : History
  pub changes : MadeBetween loaded later p change unchanged
  pub its_amount : amount_of j.number (carried j.number (own unchanged p)) change ≡ amount
  pub changed : History
  pub after_change : changed ≡ event p change ∷ unchanged
  -- the steps of the call between these two
  pub between : List PcpuStep
  pub made_between : own unchanged p ≡ after p between (event p (LoadC j count) ∷ own loaded p)
  pub no_later_load : LoadsNoCount between
  pub most : pos 0 <ℤ amount →
      true_total facts changed j.number ≤ℤ (limit +ℤ by_others_between rise p j.number loaded changed)
  pub least : amount <ℤ pos 0 →
      (limit -ℤ by_others_between fall p j.number loaded changed) ≤ℤ true_total facts changed j.number
