-- What the answer of each call on the percpu counters tells of their true totals.
use Rattle.std.specs.Prelude.{◌≡◌, ◌≢◌, ℕ, ◌≤◌, Bool, true, false, ℤ, pos, ◌-ℤ◌, List, length, Option, Some}
use Rattle.std.specs.Prelude.{unsigned_abs}
use Rattle.vms_world.specs.Common.{CpuId, own, owner_in, PcpuAnswer, PcpuCall, PcpuFacts, PcpuStep, IsIdle, IsPcpuCall}
use Rattle.vms_base.specs.declared.ids.PcpuId.{PcpuId}
use Rattle.vms_pcpu_core.specs.declared.answers.Compare.{Compare}
use Rattle.vms_pcpu_core.specs.declared.answers.PcpuAnswer.TheVariants as answer
use Rattle.vms_pcpu_core.specs.declared.pcpu_calls.PcpuCall.TheVariants as call
use Rattle.vms_pcpu_core.specs.declared.steps.PcpuStep.TheVariants.{LoadC}
use Rattle.vms_pcpu_core.specs.Histories.{History}
use Rattle.vms_pcpu_core.specs.Limits.{PassesLimit}
use Rattle.vms_pcpu_core.specs.MadeBetween.{MadeBetween, MadeSteps}
use Rattle.vms_pcpu_core.specs.Calls.{unknown}
use Rattle.vms_pcpu_core.specs.Steps.{role}
use Rattle.vms_pcpu_core.specs.Summing.{SumsUp, TellsBySum}
use Rattle.vms_pcpu_core.specs.Totals.{true_total}
use Rattle.vms_percpu_near.specs.Adds.{AddsCarryNothing}
use Rattle.vms_percpu_near.specs.Answers.{StaysWithinLimit, TellsSign}

-- the shared part of counter j, which was loaded between these histories, is off from the true total of that moment by
-- at most a batch for each CPU that is present
pub record CountIsTrue (facts : PcpuFacts) (later earlier : History) (p : ℕ) (j : PcpuId) (count : ℤ) : Type 0 where
  pub moment : History
  pub loaded : MadeBetween earlier later p (LoadC j count) moment
  pub near : unsigned_abs (count -ℤ true_total facts moment j.number) ≤ unknown facts j.number

-- a comparison tells the sign of the true total less the other number: by the shared part alone, or by a sum
abbrev pub ComparesTruly : PcpuFacts → (later earlier : History) → ℕ → PcpuId → ℤ → Compare → (rough : Bool) → Type 0
ComparesTruly facts later earlier p j rhs answer true = TellsSign facts earlier later p j rhs answer
ComparesTruly facts later earlier p j rhs answer false = TellsBySum facts earlier later p j rhs answer

-- what a call answers that caller p made between these histories. A limited addition of 0 is always made, and one of
-- another amount keeps its limit where it was made, and would have passed it where it wasn't. A call that answers that
-- it is made tells nothing.
abbrev pub PcpuAnswerIsTrue : PcpuFacts → (later earlier : History) → ℕ → PcpuCall → PcpuAnswer → Type 0
PcpuAnswerIsTrue facts later earlier p (call.LimitedAdd j limit amount) (answer.Limited true) =
    amount ≢ pos 0 → StaysWithinLimit facts earlier later p j limit amount
PcpuAnswerIsTrue facts later earlier p (call.LimitedAdd j limit amount) (answer.Limited false) =
    PassesLimit facts earlier later p j limit amount
PcpuAnswerIsTrue facts later earlier p (call.Compare j rhs) (answer.Compared told) =
    ComparesTruly facts later earlier p j rhs told told.rough
PcpuAnswerIsTrue facts later earlier p (call.Sum j) (answer.Total sum) = SumsUp facts earlier later p j sum
PcpuAnswerIsTrue facts later earlier p (call.Read j) (answer.Count count) =
    CountIsTrue facts later earlier p j count
PcpuAnswerIsTrue facts later earlier p (call.Add j amount) answer.Done = Unit {0}
PcpuAnswerIsTrue facts later earlier p (call.Sync j) answer.Done = Unit {0}
PcpuAnswerIsTrue facts later earlier p (call.FoldDead dead) answer.Done = Unit {0}
PcpuAnswerIsTrue facts later earlier p _ _ = ⊥

-- this holds of every call that a caller made between two histories, where it carried nothing and held no lock before,
-- and owns the CPU if the call has a step, and nobody ever added to a local part while it carried something of the
-- counter. The last can't be seen by a single caller, but holds where all make calls alone, as in a phase
abbrev pub PcpuCallsAnswerTruly : Type 0
PcpuCallsAnswerTruly = (facts : PcpuFacts) (who : Option CpuId) (asked : PcpuCall) (p : ℕ) (later earlier : History)
    (steps : List PcpuStep) (told : PcpuAnswer) → IsPcpuCall facts who asked steps told →
    MadeSteps facts earlier later p steps → AddsCarryNothing later → IsIdle (own earlier p) →
    ((c : CpuId) → who ≡ Some c → 1 ≤ length steps → owner_in role later p ≡ Some c) →
    PcpuAnswerIsTrue facts later earlier p asked told
