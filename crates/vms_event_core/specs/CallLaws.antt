-- A pass makes the steps of a call while others act: what it has made, what it spends, and that it may make the next.
use Rattle.std.specs.Prelude.{◌≡◌, ℕ, ◌+◌, ◌≤◌, List, ◌++◌, Option, Some, None, All}
use Rattle.vms_history.specs.Common.{CpuId, EventId, Dead, own, after, owner_in}
use Rattle.vms_history.specs.PassSteps as making
use Rattle.vms_event_core.specs.declared.call_values.EventCall.{EventCall}
use Rattle.vms_event_core.specs.declared.call_values.EventCall.TheVariants.{Count, Sum, FoldDead}
use Rattle.vms_event_core.specs.declared.steps.EventFacts.{EventFacts}
use Rattle.vms_event_core.specs.declared.steps.EventStep.{EventStep}
use Rattle.vms_event_core.specs.declared.steps.EventStep.TheVariants.{LoadE, TakeE}
use Rattle.vms_event_core.specs.Bases.{cpu_at}
use Rattle.vms_event_core.specs.Calls.{IsFoldEvents, AtMostStands, online_cpus, sum_over}
use Rattle.vms_event_core.specs.Conditions.{Counts}
use Rattle.vms_event_core.specs.Events.{events, History, IsLegal, state_after}
use Rattle.vms_event_core.specs.Own.{carried, CarriesNothing}
use Rattle.vms_event_core.specs.Steps.{role}
use Rattle.vms_event_core.specs.Totals.{spent, spent_by}
use Rattle.vms_event_core.specs.Words.{IsEvent, word_at}

-- pass p lives and has made these steps since the earlier history, the oldest first, whatever others did in between
abbrev pub HasMade : EventFacts → History → History → ℕ → List EventStep → Type 0
HasMade facts later earlier p steps = making.HasMade events facts later earlier p steps

-- a load or a take tells the number that stands when it is made
abbrev pub Tells : EventFacts → History → ℕ → EventStep → Type 0
Tells facts h p (LoadE c k v) = word_at (state_after facts h) c.number k.number ≡ v
Tells facts h p (TakeE c k v) = word_at (state_after facts h) c.number k.number ≡ v
Tells facts h p _ = Unit {0}

-- from this history on pass p may make these steps: once it has made some of them, and whatever others did in between,
-- the next one may be made if it tells what stands, and the history with it is legal
abbrev pub MayMake : EventFacts → ℕ → History → List EventStep → Type 0
MayMake facts p earlier steps = making.MayMake events Tells facts p earlier steps

-- the control pass may fold a dead CPU, where it carries nothing
pub record FoldsDead (facts : EventFacts) (h : History) (p : ℕ) (c : CpuId) : Type 0 where
  pub control : owner_in role h p ≡ None
  pub nothing : CarriesNothing (own h p)
  pub dead : cpu_at facts c.number ≡ Dead

-- where pass p may make a call: the owner of a CPU may count within the CPU's volume, and every pass may sum up
abbrev pub MayCall : EventFacts → History → ℕ → EventCall → Type 0
MayCall facts h p (Count k n) = Counts h p k n
MayCall facts h p (Sum k) = IsEvent k.number
MayCall facts h p (FoldDead c) = FoldsDead facts h p c

-- steps of a call leave their caller carrying what it carried before
abbrev pub CarryAsBefore : List EventStep → Type 0
CarryAsBefore steps = (p k : ℕ) (h : History) → carried k (after p steps h) ≡ carried k h

-- no step of a call spends anything of a CPU's volume, whoever makes it
abbrev pub SpendNothing : List EventStep → Type 0
SpendNothing steps = (who : Option CpuId) (c k : ℕ) → All (λ step. spent_by who c k step ≡ 0) steps

-- what the CPU of pass p has counted of each event in the later history is this much more than in the earlier one
abbrev pub SpendsSince : History → History → ℕ → (ℕ → ℕ) → Type 0
SpendsSince later earlier p more = (c : CpuId) (k : ℕ) → owner_in role earlier p ≡ Some c →
    spent later c.number k ≡ spent earlier c.number k + more k

-- what the CPU of pass p has counted of each event is what it was
abbrev pub KeepsSpending : History → History → ℕ → Type 0
KeepsSpending later earlier p = (c : CpuId) (k : ℕ) → owner_in role earlier p ≡ Some c →
    spent later c.number k ≡ spent earlier c.number k

-- once a fold of a CPU is made, whatever others did in between and do afterwards, the words of that CPU are 0
abbrev pub LeavesZeros : Type 0
LeavesZeros = (facts : EventFacts) (more later earlier : History) (p : ℕ) (from into : CpuId) (found : List ℕ)
    (steps : List EventStep) (k : ℕ) → HasMade facts later earlier p steps → IsFoldEvents from into found steps →
    IsLegal facts (more ++ later) → IsEvent k → word_at (state_after facts (more ++ later)) from.number k ≡ 0

-- once the sum of an event is made, whatever others did in between, each load found at most what stands, and the answer
-- lies between what the words of the CPUs were in sum when the call began and what they are
pub record SumsBetween (facts : EventFacts) (later earlier : History) (k : EventId) (found : List ℕ)
    (answer : ℕ) : Type 0 where
  pub stands : AtMostStands (state_after facts later) k.number (online_cpus facts) found
  pub least : sum_over (state_after facts earlier) k.number (online_cpus facts) ≤ answer
  pub most : answer ≤ sum_over (state_after facts later) k.number (online_cpus facts)
