-- What the steps on the event counters tell and do, by the words alone.
use Rattle.std.specs.Prelude.{◌≡◌, ℕ, Option, Some, None, refl}
use Rattle.vms_history.specs.Common.{CpuId, owner_in, ByState, IsByState}
use Rattle.vms_event_core.specs.declared.states.EventState.{EventState}
use Rattle.vms_event_core.specs.declared.steps.EventFacts.{EventFacts}
use Rattle.vms_event_core.specs.declared.steps.EventStep.{EventStep}
use Rattle.vms_event_core.specs.declared.steps.EventStep.TheVariants.{LoadE, TakeE}
use Rattle.vms_event_core.specs.Common.{Tells, events, History, state_after, role, effect, effect_of, own_effect}
use Rattle.vms_event_core.specs.Common.{word_at}

-- a load or a take tells the word that stands
abbrev pub TellsWord : Option CpuId → EventState → EventStep → Type 0
TellsWord who s (LoadE c k v) = word_at s c.number k.number ≡ v
TellsWord who s (TakeE c k v) = word_at s c.number k.number ≡ v
TellsWord who s _ = Unit {0}

-- the words after a step of a caller that owns `who`
abbrev pub effect_by : Option CpuId → EventStep → EventState → EventState
effect_by None step s = effect_of step s
effect_by (Some c) step s = own_effect c step (effect_of step s)

abbrev pub events_by_state : ByState EventStep EventState
events_by_state = record { Tells = TellsWord; effect = effect_by }

tells-events : (facts : EventFacts) (h : History) (p : ℕ) (step : EventStep)
    → TellsWord (owner_in role h p) (state_after facts h) step → Tells facts h p step
tells-events facts h p (LoadE c k v) told = told
tells-events facts h p (TakeE c k v) told = told
tells-events facts h p _ told = tt

effect-events : (facts : EventFacts) (who : Option CpuId) (step : EventStep) (s : EventState)
    → effect facts who step s ≡ effect_by who step s
effect-events facts None step s = refl
effect-events facts (Some c) step s = refl

pub IsByState-events : IsByState events Tells events_by_state
IsByState-events = record { tells = tells-events; effect = effect-events }
