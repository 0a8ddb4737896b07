-- A Split and a Join leave the words of a tree of groups as they are, and ask nothing beyond the rules of the passes.
use Rattle.std.specs.Prelude.{◌≡◌, ◌≢◌, Option, refl, ℕ}
use Rattle.vms_history.specs.Common.{CpuId, IsQuiet, Works}
use Rattle.vms_group_core.specs.declared.states.GroupState.{GroupState}
use Rattle.vms_group_core.specs.declared.steps.GroupFacts.{GroupFacts}
use Rattle.vms_group_core.specs.declared.steps.GroupStep.{GroupStep}
use Rattle.vms_group_core.specs.declared.steps.GroupStep.TheVariants.{Split, Join}
use Rattle.vms_group_core.specs.Conditions.{Meets}
use Rattle.vms_group_core.specs.Histories.{groups, History}
use Rattle.vms_group_core.specs.Steps.{role, effect}

quiet-leaves : (facts : GroupFacts) (who : Option CpuId) (step : GroupStep) (s : GroupState) → role step ≢ Works
    → effect facts who step s ≡ s
quiet-leaves facts who (Split q c) s differs = refl
quiet-leaves facts who (Join q) s differs = refl
quiet-leaves facts who _ s differs = absurd (differs refl)

quiet-asks_nothing : (facts : GroupFacts) (h : History) (s : GroupState) (p : ℕ) (step : GroupStep) → role step ≢ Works
    → Meets facts h s p step
quiet-asks_nothing facts h s p (Split q c) differs = tt
quiet-asks_nothing facts h s p (Join q) differs = tt
quiet-asks_nothing facts h s p _ differs = absurd (differs refl)

pub quiet_groups : IsQuiet groups
quiet_groups = record { leaves = quiet-leaves; asks_nothing = quiet-asks_nothing }
