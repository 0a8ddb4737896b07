-- A Split and a Join leave the percpu counters as they are, and ask nothing beyond the rules of the passes.
use Rattle.std.specs.Prelude.{◌≡◌, ◌≢◌, Option, refl, ℕ}
use Rattle.vms_history.specs.Common.{CpuId, IsQuiet, Works}
use Rattle.vms_pcpu_core.specs.States.{LockedState}
use Rattle.vms_pcpu_core.specs.declared.steps.PcpuFacts.{PcpuFacts}
use Rattle.vms_pcpu_core.specs.declared.steps.PcpuStep.{PcpuStep}
use Rattle.vms_pcpu_core.specs.declared.steps.PcpuStep.TheVariants.{Split, Join}
use Rattle.vms_pcpu_core.specs.Conditions.{Meets}
use Rattle.vms_pcpu_core.specs.Histories.{percpu, History}
use Rattle.vms_pcpu_core.specs.Steps.{role, effect}

quiet-leaves : (facts : PcpuFacts) (who : Option CpuId) (step : PcpuStep) (s : LockedState) → role step ≢ Works
    → effect facts who step s ≡ s
quiet-leaves facts who (Split q c) s differs = refl
quiet-leaves facts who (Join q) s differs = refl
quiet-leaves facts who _ s differs = absurd (differs refl)

quiet-asks_nothing : (facts : PcpuFacts) (h : History) (s : LockedState) (p : ℕ) (step : PcpuStep) → role step ≢ Works
    → Meets facts h s p step
quiet-asks_nothing facts h s p (Split q c) differs = tt
quiet-asks_nothing facts h s p (Join q) differs = tt
quiet-asks_nothing facts h s p _ differs = absurd (differs refl)

pub quiet_percpu : IsQuiet percpu
quiet_percpu = record { leaves = quiet-leaves; asks_nothing = quiet-asks_nothing }
