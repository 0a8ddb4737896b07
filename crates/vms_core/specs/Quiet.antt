-- A Split and a Join leave the page counters as they are, and ask nothing beyond the rules of the passes.
use Rattle.std.specs.Prelude.{◌≡◌, ◌≢◌, Option, Some, None, refl, ℕ}
use Rattle.vms_history.specs.Common.{CpuId, IsQuiet, Works}
use Rattle.vms_core.specs.declared.states.State.{State}
use Rattle.vms_core.specs.declared.steps.Facts.{Facts}
use Rattle.vms_core.specs.declared.steps.Step.{Step}
use Rattle.vms_core.specs.declared.steps.Step.TheVariants.{Split, Join}
use Rattle.vms_core.specs.Conditions.{Meets}
use Rattle.vms_core.specs.Pages.{pages, History}
use Rattle.vms_core.specs.Steps.{role, effect}

quiet-leaves : (facts : Facts) (who : Option CpuId) (step : Step) (s : State) → role step ≢ Works
    → effect facts who step s ≡ s
quiet-leaves facts None (Split q c) s differs = refl
quiet-leaves facts (Some o) (Split q c) s differs = refl
quiet-leaves facts None (Join q) s differs = refl
quiet-leaves facts (Some o) (Join q) s differs = refl
quiet-leaves facts who _ s differs = absurd (differs refl)

quiet-asks_nothing : (facts : Facts) (h : History) (s : State) (p : ℕ) (step : Step) → role step ≢ Works
    → Meets facts h s p step
quiet-asks_nothing facts h s p (Split q c) differs = tt
quiet-asks_nothing facts h s p (Join q) differs = tt
quiet-asks_nothing facts h s p _ differs = absurd (differs refl)

pub quiet_pages : IsQuiet pages
quiet_pages = record { leaves = quiet-leaves; asks_nothing = quiet-asks_nothing }
