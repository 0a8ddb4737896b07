-- What each kind of step asks, in the state before it and of the history before it.
use Rattle.std.specs.Prelude.{◌≡◌, ℕ, ◌+◌, ◌≤◌, true, false, ℤ, pos, ◌+ℤ◌, ◌-ℤ◌, List, Option, Some, None, unsigned_abs}
use Rattle.vms_history.specs.Common.{CpuId, PcpuId, Dead, most_volume, IsCpu, own, owner_in}
use Rattle.vms_history.specs.declared.events.Event.{Event}
use Rattle.vms_pcpu_core.specs.declared.steps.PcpuFacts.{PcpuFacts}
use Rattle.vms_pcpu_core.specs.declared.steps.PcpuStep.{PcpuStep}
use Rattle.vms_pcpu_core.specs.declared.steps.PcpuStep.TheVariants.{AddL, LoadL, LoadC, Won, Missed, TakeL, AddC}
use Rattle.vms_pcpu_core.specs.declared.steps.PcpuStep.TheVariants.{Unlock, Split, Join}
use Rattle.vms_pcpu_core.specs.States.{LockedState, batch_at, count_at, local_at, held_at, cpu_at, IsPcpu}
use Rattle.vms_pcpu_core.specs.Own.{holds_lock, carried}
use Rattle.vms_pcpu_core.specs.Steps.{role}
use Rattle.vms_pcpu_core.specs.Totals.{spent}

-- an addition to the own local part, which stays within the batch
pub record AddsToLocal (facts : PcpuFacts) (h : List (Event PcpuStep)) (s : LockedState) (p : ℕ)
    (j : PcpuId) (amount : ℤ) : Type 0 where
  pub counter : IsPcpu facts j.number
  pub cpu : CpuId
  pub owner : owner_in role h p ≡ Some cpu
  pub within : unsigned_abs (local_at s.numbers cpu.number j.number +ℤ amount) ≤ batch_at s.numbers j.number
  pub affordable : spent h cpu.number j.number + unsigned_abs amount ≤ most_volume

-- a load of a local part, of any CPU
pub record LoadsLocal (facts : PcpuFacts) (s : LockedState) (j : PcpuId) (c : CpuId) (v : ℤ) : Type 0 where
  pub counter : IsPcpu facts j.number
  pub cpu : IsCpu facts.layout c.number
  pub value : local_at s.numbers c.number j.number ≡ v

-- a load of the shared part
pub record LoadsCount (facts : PcpuFacts) (s : LockedState) (j : PcpuId) (v : ℤ) : Type 0 where
  pub counter : IsPcpu facts j.number
  pub value : count_at s.numbers j.number ≡ v

-- a lock may be won where it is free
pub record WinsLock (facts : PcpuFacts) (s : LockedState) (j : PcpuId) : Type 0 where
  pub counter : IsPcpu facts j.number
  pub free : held_at s j.number ≡ false

-- a lock may be missed where it is held
pub record MissesLock (facts : PcpuFacts) (s : LockedState) (j : PcpuId) : Type 0 where
  pub counter : IsPcpu facts j.number
  pub taken : held_at s j.number ≡ true

-- whose local parts may be taken: the own, and by the control pass those of a dead CPU
abbrev pub MayTake : PcpuFacts → Option CpuId → CpuId → Type 0
MayTake facts (Some d) c = d ≡ c
MayTake facts None c = cpu_at facts c.number ≡ Dead

-- a local part is taken under the lock
pub record TakesLocal (facts : PcpuFacts) (h : List (Event PcpuStep)) (s : LockedState) (p : ℕ)
    (j : PcpuId) (c : CpuId) (v : ℤ) : Type 0 where
  pub counter : IsPcpu facts j.number
  pub cpu : IsCpu facts.layout c.number
  pub holding : holds_lock j.number (own h p) ≡ true
  pub whose : MayTake facts (owner_in role h p) c
  pub value : local_at s.numbers c.number j.number ≡ v

-- which amount an addition to the shared part may have: what the volume of the own CPU allows, and none in the control
-- pass
abbrev pub MayAdd : List (Event PcpuStep) → Option CpuId → ℕ → ℤ → Type 0
MayAdd h (Some c) j amount = spent h c.number j + unsigned_abs amount ≤ most_volume
MayAdd h None j amount = amount ≡ pos 0

-- an addition to the shared part, under the lock, of what is carried and an amount
pub record AddsToCount (facts : PcpuFacts) (h : List (Event PcpuStep)) (p : ℕ) (j : PcpuId) (added : ℤ) : Type 0 where
  pub counter : IsPcpu facts j.number
  pub holding : holds_lock j.number (own h p) ≡ true
  pub amount : MayAdd h (owner_in role h p) j.number (added -ℤ carried j.number (own h p))

-- a lock is given back by its holder, who carries nothing
pub record GivesBack (facts : PcpuFacts) (h : List (Event PcpuStep)) (p : ℕ) (j : PcpuId) : Type 0 where
  pub counter : IsPcpu facts j.number
  pub holding : holds_lock j.number (own h p) ≡ true
  pub nothing_carried : carried j.number (own h p) ≡ pos 0

-- the condition of each kind of step; that of a Split and a Join is in the rules of the passes
abbrev pub Meets : PcpuFacts → List (Event PcpuStep) → LockedState → ℕ → PcpuStep → Type 0
Meets facts h s p (AddL j a) = AddsToLocal facts h s p j a
Meets facts h s p (LoadL j c v) = LoadsLocal facts s j c v
Meets facts h s p (LoadC j v) = LoadsCount facts s j v
Meets facts h s p (Won j) = WinsLock facts s j
Meets facts h s p (Missed j) = MissesLock facts s j
Meets facts h s p (TakeL j c v) = TakesLocal facts h s p j c v
Meets facts h s p (AddC j a) = AddsToCount facts h p j a
Meets facts h s p (Unlock j) = GivesBack facts h p j
Meets facts h s p (Split q who) = Unit {0}
Meets facts h s p (Join q) = Unit {0}
