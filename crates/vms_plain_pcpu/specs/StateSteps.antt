-- What the steps on the percpu counters tell and do, by the numbers and the locks alone.
use Rattle.std.specs.Prelude.{◌≡◌, ℕ, true, false, pos, ◌+ℤ◌, Option, refl}
use Rattle.vms_history.specs.Common.{CpuId, owner_in, ByState, IsByState}
use Rattle.vms_pcpu_core.specs.declared.steps.PcpuFacts.{PcpuFacts}
use Rattle.vms_pcpu_core.specs.declared.steps.PcpuStep.{PcpuStep}
use Rattle.vms_pcpu_core.specs.declared.steps.PcpuStep.TheVariants.{AddL, LoadL, LoadC, Won, Missed, TakeL, AddC}
use Rattle.vms_pcpu_core.specs.declared.steps.PcpuStep.TheVariants.{Unlock}
use Rattle.vms_pcpu_core.specs.Common.{percpu, History, state_after, Tells, LockedState, count_at, held_at, local_at}
use Rattle.vms_pcpu_core.specs.Common.{with_count, with_held, with_local, role, effect, with_own_added}

-- a load and a take tell the number that stands; a lock is won where it is free, and missed where it is held
abbrev pub TellsNumber : Option CpuId → LockedState → PcpuStep → Type 0
TellsNumber who s (LoadL j c v) = local_at s.numbers c.number j.number ≡ v
TellsNumber who s (LoadC j v) = count_at s.numbers j.number ≡ v
TellsNumber who s (Won j) = held_at s j.number ≡ false
TellsNumber who s (Missed j) = held_at s j.number ≡ true
TellsNumber who s (TakeL j c v) = local_at s.numbers c.number j.number ≡ v
TellsNumber who s _ = Unit {0}

-- the state after a step of a caller that owns `who`
abbrev pub effect_by : Option CpuId → PcpuStep → LockedState → LockedState
effect_by who (AddL j a) s = with_own_added who j a s
effect_by who (Won j) s = with_held s j.number true
effect_by who (TakeL j c v) s = with_local s c.number j.number (pos 0)
effect_by who (AddC j a) s = with_count s j.number (count_at s.numbers j.number +ℤ a)
effect_by who (Unlock j) s = with_held s j.number false
effect_by who _ s = s

abbrev pub percpu_by_state : ByState PcpuStep LockedState
percpu_by_state = record { Tells = TellsNumber; effect = effect_by }

tells-percpu : (facts : PcpuFacts) (h : History) (p : ℕ) (step : PcpuStep)
    → TellsNumber (owner_in role h p) (state_after facts h) step → Tells facts h p step
tells-percpu facts h p (LoadL j c v) told = told
tells-percpu facts h p (LoadC j v) told = told
tells-percpu facts h p (Won j) told = told
tells-percpu facts h p (Missed j) told = told
tells-percpu facts h p (TakeL j c v) told = told
tells-percpu facts h p _ told = tt

effect-percpu : (facts : PcpuFacts) (who : Option CpuId) (step : PcpuStep) (s : LockedState)
    → effect facts who step s ≡ effect_by who step s
effect-percpu facts who (AddL j a) s = refl
effect-percpu facts who (Won j) s = refl
effect-percpu facts who (TakeL j c v) s = refl
effect-percpu facts who (AddC j a) s = refl
effect-percpu facts who (Unlock j) s = refl
effect-percpu facts who _ s = refl

pub IsByState-percpu : IsByState percpu Tells percpu_by_state
IsByState-percpu = record { tells = tells-percpu; effect = effect-percpu }
