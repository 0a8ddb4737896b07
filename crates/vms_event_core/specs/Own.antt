-- What a caller carries, by its own events alone.
use Rattle.std.specs.Prelude.{◌≡◌, ℕ, nat_eq, ℤ, pos, neg_ℤ, List, if◌then◌else◌}
use Rattle.vms_history.specs.declared.events.Event.{Event}
use Rattle.vms_history.specs.Common.{total}
use Rattle.vms_event_core.specs.declared.steps.EventStep.{EventStep}
use Rattle.vms_event_core.specs.declared.steps.EventStep.TheVariants.{TakeE, AddF}
use Rattle.vms_event_core.specs.Words.{IsEvent}

-- what a step takes out of the words of event k, less what it adds to them of what was taken
abbrev pub moved : ℕ → EventStep → ℤ
moved k (TakeE c l v) = if nat_eq l.number k then pos v else pos 0
moved k (AddF c l v) = if nat_eq l.number k then neg_ℤ (pos v) else pos 0
moved k _ = pos 0

-- what a caller carries for an event
abbrev pub carried : ℕ → List (Event EventStep) → ℤ
carried k h = total (moved k) h

-- a caller carries nothing for any event
abbrev pub CarriesNothing : List (Event EventStep) → Type 0
CarriesNothing h = (k : ℕ) → IsEvent k → carried k h ≡ pos 0
