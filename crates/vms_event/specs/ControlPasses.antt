-- What holds of the control pass between its calls.
use Rattle.std.specs.Prelude.{◌≡◌, ℕ, pos, None}
use Rattle.vms_history.specs.Common.{own}
use Rattle.vms_event_core.specs.declared.steps.EventFacts.{EventFacts}
use Rattle.vms_event_core.specs.declared.steps.EventStep.{EventStep}
use Rattle.vms_event_core.specs.Common.{events, moved, CarriesNothing}
use Rattle.vms_seats.specs.Common.{Pass, IsLive}

-- a control pass that lives, and carries nothing
pub record IsIdleControl (pass : Pass EventFacts EventStep) : Type 0 where
  pub live : IsLive events pass
  pub owns_none : pass.cpu ≡ None
  pub carries : CarriesNothing (own pass.seen pass.number)

-- a step that leaves what a pass carries
abbrev pub MovesNothing : EventStep → Type 0
MovesNothing step = (k : ℕ) → moved k step ≡ pos 0
