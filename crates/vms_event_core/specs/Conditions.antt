-- What each kind of step asks, in the words before it and of the history before it.
use Rattle.std.specs.Prelude.{◌≡◌, ◌≢◌, ℕ, ◌+◌, ◌≤◌, pos, List, Some, None}
use Rattle.vms_history.specs.Common.{CpuId, EventId, Dead, most_volume, IsCpu, own, owner_in}
use Rattle.vms_history.specs.declared.events.Event.{Event}
use Rattle.vms_event_core.specs.declared.states.EventState.{EventState}
use Rattle.vms_event_core.specs.declared.steps.EventFacts.{EventFacts}
use Rattle.vms_event_core.specs.declared.steps.EventStep.{EventStep}
use Rattle.vms_event_core.specs.declared.steps.EventStep.TheVariants.{AddE, LoadE, TakeE, AddF, Split, Join}
use Rattle.vms_event_core.specs.Words.{IsEvent, word_at}
use Rattle.vms_event_core.specs.Steps.{role}
use Rattle.vms_event_core.specs.Own.{carried}
use Rattle.vms_event_core.specs.Totals.{spent}
use Rattle.vms_event_core.specs.Bases.{cpu_at, IsLowestOnline}

-- a pass that owns a CPU counts, within the volume of that CPU
pub record Counts (h : List (Event EventStep)) (p : ℕ) (k : EventId) (n : ℕ) : Type 0 where
  pub cpu : CpuId
  pub owns : owner_in role h p ≡ Some cpu
  pub event : IsEvent k.number
  pub affordable : spent h cpu.number k.number + n ≤ most_volume

-- a load of a word, of any CPU
pub record FindsWord (facts : EventFacts) (s : EventState) (c : CpuId) (k : EventId) (v : ℕ) : Type 0 where
  pub cpu : IsCpu facts.layout c.number
  pub event : IsEvent k.number
  pub value : word_at s c.number k.number ≡ v

-- the control pass takes a dead CPU's word
pub record TakesWord (facts : EventFacts) (h : List (Event EventStep)) (s : EventState) (p : ℕ) (c : CpuId)
    (k : EventId) (v : ℕ) : Type 0 where
  pub control : owner_in role h p ≡ None
  pub dead : cpu_at facts c.number ≡ Dead
  pub finds : FindsWord facts s c k v

-- all that the pass carries for an event is added to a word of the lowest-numbered CPU that is online
pub record AddsCarried (facts : EventFacts) (h : List (Event EventStep)) (p : ℕ) (c : CpuId) (k : EventId)
    (v : ℕ) : Type 0 where
  pub cpu : IsCpu facts.layout c.number
  pub lowest : IsLowestOnline facts c.number
  pub event : IsEvent k.number
  pub carries : carried k.number (own h p) ≡ pos v
  pub some : v ≢ 0

-- the condition of each kind of step; that of a Split and a Join is in the rules of the passes
abbrev pub Meets : EventFacts → List (Event EventStep) → EventState → ℕ → EventStep → Type 0
Meets facts h s p (AddE k n) = Counts h p k n
Meets facts h s p (LoadE c k v) = FindsWord facts s c k v
Meets facts h s p (TakeE c k v) = TakesWord facts h s p c k v
Meets facts h s p (AddF c k v) = AddsCarried facts h p c k v
Meets facts h s p (Split q who) = Unit {0}
Meets facts h s p (Join q) = Unit {0}
