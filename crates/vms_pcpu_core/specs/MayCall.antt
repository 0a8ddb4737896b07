-- The steps of each call may be made, whatever other callers do between them.
use Rattle.std.specs.Prelude.{◌≡◌, ℕ, ◌≤◌, Bool, true, false, ℤ, List, Some}
use Rattle.vms_history.specs.Common.{CpuId, PcpuId, IsCpu, own, lives_in, owner_in}
use Rattle.vms_history.specs.PassSteps as making
use Rattle.vms_pcpu_core.specs.declared.answers.Compare.{Compare}
use Rattle.vms_pcpu_core.specs.declared.steps.PcpuFacts.{PcpuFacts}
use Rattle.vms_pcpu_core.specs.declared.steps.PcpuStep.{PcpuStep}
use Rattle.vms_pcpu_core.specs.declared.steps.PcpuStep.TheVariants.{LoadL, LoadC, Won, Missed, TakeL}
use Rattle.vms_pcpu_core.specs.Calls.{IsRead, IsAdd, IsSync, IsFoldDead, IsSum, IsCompare, IsLimitedAdd, present_cpus}
use Rattle.vms_pcpu_core.specs.Calls.{unknown}
use Rattle.vms_pcpu_core.specs.Conditions.{MayTake, MayAdd}
use Rattle.vms_pcpu_core.specs.Histories.{percpu, History, IsLegal, state_after}
use Rattle.vms_pcpu_core.specs.Laws.{numbers_after}
use Rattle.vms_pcpu_core.specs.OwnSteps.{IsIdle}
use Rattle.vms_pcpu_core.specs.States.{IsPcpu, batch_at, count_at, held_at, local_at, counters_of}
use Rattle.vms_pcpu_core.specs.Steps.{role}

-- a load and a take tell the number that stands; a lock is won where it is free, and missed where it is held
abbrev pub Tells : PcpuFacts → History → ℕ → PcpuStep → Type 0
Tells facts h p (LoadL j c v) = local_at (numbers_after facts h) c.number j.number ≡ v
Tells facts h p (LoadC j v) = count_at (numbers_after facts h) j.number ≡ v
Tells facts h p (Won j) = held_at (state_after facts h) j.number ≡ false
Tells facts h p (Missed j) = held_at (state_after facts h) j.number ≡ true
Tells facts h p (TakeL j c v) = local_at (numbers_after facts h) c.number j.number ≡ v
Tells facts h p _ = Unit {0}

-- pass p may make these steps from here on, each where it tells what stands
abbrev pub MayMake : PcpuFacts → ℕ → History → List PcpuStep → Type 0
MayMake facts p h steps = making.MayMake percpu Tells facts p h steps

-- a pass that lives, holds no lock and carries nothing
pub record MayCall (facts : PcpuFacts) (h : History) (p : ℕ) : Type 0 where
  pub legal : IsLegal facts h
  pub lives : lives_in role h p ≡ true
  pub idle : IsIdle (own h p)

-- a pass that owns a CPU which may still change a counter by this amount
pub record MayChangePcpu (facts : PcpuFacts) (h : History) (p : ℕ) (cpu : CpuId) (j : PcpuId)
    (amount : ℤ) : Type 0 where
  pub calls : MayCall facts h p
  pub owner : owner_in role h p ≡ Some cpu
  pub counter : IsPcpu facts j.number
  pub affordable : MayAdd h (Some cpu) j.number amount

-- a pass may read a counter, sum it and compare it
abbrev pub MakesRead : Type 0
MakesRead = (facts : PcpuFacts) (h : History) (p : ℕ) (j : PcpuId) (steps : List PcpuStep) (answer : ℤ) →
    MayCall facts h p → IsPcpu facts j.number → IsRead j steps answer → MayMake facts p h steps

abbrev pub MakesSum : Type 0
MakesSum = (facts : PcpuFacts) (h : History) (p : ℕ) (j : PcpuId) (steps : List PcpuStep) (answer : ℤ) →
    MayCall facts h p → IsPcpu facts j.number → IsSum (present_cpus facts) j steps answer → MayMake facts p h steps

abbrev pub MakesCompare : Type 0
MakesCompare = (facts : PcpuFacts) (h : History) (p : ℕ) (j : PcpuId) (rhs : ℤ) (steps : List PcpuStep)
    (answer : Compare) → MayCall facts h p → IsPcpu facts j.number →
    IsCompare (unknown facts j.number) (present_cpus facts) j rhs steps answer → MayMake facts p h steps

-- a pass that owns a CPU may add an amount that its volume allows, and add it under a limit
abbrev pub MakesAdd : Type 0
MakesAdd = (facts : PcpuFacts) (h : History) (p : ℕ) (cpu : CpuId) (j : PcpuId) (amount : ℤ) (steps : List PcpuStep) →
    MayChangePcpu facts h p cpu j amount → IsAdd (batch_at facts.base j.number) cpu j amount steps →
    MayMake facts p h steps

abbrev pub MakesLimitedAdd : Type 0
MakesLimitedAdd = (facts : PcpuFacts) (h : History) (p : ℕ) (cpu : CpuId) (j : PcpuId) (limit amount : ℤ)
    (steps : List PcpuStep) (answer : Bool) → MayChangePcpu facts h p cpu j amount →
    IsLimitedAdd (batch_at facts.base j.number) (unknown facts j.number) (present_cpus facts) cpu j limit amount steps
    answer → MayMake facts p h steps

-- a pass may move the local part of its own CPU to the shared part, and the control pass that of a dead CPU
abbrev pub MakesSync : Type 0
MakesSync = (facts : PcpuFacts) (h : History) (p : ℕ) (cpu : CpuId) (j : PcpuId) (steps : List PcpuStep) →
    MayCall facts h p → IsPcpu facts j.number → IsCpu facts.layout cpu.number →
    MayTake facts (owner_in role h p) cpu → IsSync cpu j steps → MayMake facts p h steps

-- so it may those of all counters
abbrev pub MakesFoldDead : Type 0
MakesFoldDead = (facts : PcpuFacts) (h : History) (p : ℕ) (dead : CpuId) (n : ℕ) (steps : List PcpuStep) →
    MayCall facts h p → n ≤ counters_of facts.base → IsCpu facts.layout dead.number →
    MayTake facts (owner_in role h p) dead → IsFoldDead dead n steps → MayMake facts p h steps
