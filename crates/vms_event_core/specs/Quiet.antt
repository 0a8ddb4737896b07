-- A Split and a Join leave the event counters as they are, and ask nothing beyond the rules of the passes.
use Rattle.std.specs.Prelude.{◌≡◌, ◌≢◌, Option, Some, None, refl, ℕ}
use Rattle.vms_history.specs.Common.{CpuId, IsQuiet, Works}
use Rattle.vms_event_core.specs.declared.states.EventState.{EventState}
use Rattle.vms_event_core.specs.declared.steps.EventFacts.{EventFacts}
use Rattle.vms_event_core.specs.declared.steps.EventStep.{EventStep}
use Rattle.vms_event_core.specs.declared.steps.EventStep.TheVariants.{Split, Join}
use Rattle.vms_event_core.specs.Conditions.{Meets}
use Rattle.vms_event_core.specs.Events.{events, History}
use Rattle.vms_event_core.specs.Steps.{role, effect}

quiet-leaves : (facts : EventFacts) (who : Option CpuId) (step : EventStep) (s : EventState) → role step ≢ Works
    → effect facts who step s ≡ s
quiet-leaves facts None (Split q c) s differs = refl
quiet-leaves facts (Some o) (Split q c) s differs = refl
quiet-leaves facts None (Join q) s differs = refl
quiet-leaves facts (Some o) (Join q) s differs = refl
quiet-leaves facts who _ s differs = absurd (differs refl)

quiet-asks_nothing : (facts : EventFacts) (h : History) (s : EventState) (p : ℕ) (step : EventStep) → role step ≢ Works
    → Meets facts h s p step
quiet-asks_nothing facts h s p (Split q c) differs = tt
quiet-asks_nothing facts h s p (Join q) differs = tt
quiet-asks_nothing facts h s p _ differs = absurd (differs refl)

pub quiet_events : IsQuiet events
quiet_events = record { leaves = quiet-leaves; asks_nothing = quiet-asks_nothing }
