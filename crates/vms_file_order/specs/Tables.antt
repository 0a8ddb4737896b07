-- What the three tables say of passes, of steps that meet no other caller, and of acts.
use Rattle.std.specs.Prelude.{ℕ, List, refl}
use Rattle.vms_world.specs.Common.{Event, Step, EventFacts, EventStep, PcpuFacts, PcpuStep, Missed, Act, Lane}
use Rattle.vms_world.specs.Common.{EventSteps, PcpuSteps}
use Rattle.vms_core.specs.Steps as page_steps
use Rattle.vms_core.specs.declared.steps.Step.TheVariants as page
use Rattle.vms_event_core.specs.Steps as event_steps
use Rattle.vms_event_core.specs.declared.steps.EventStep.TheVariants as event
use Rattle.vms_pcpu_core.specs.Steps as pcpu_steps
use Rattle.vms_pcpu_core.specs.declared.steps.PcpuStep.TheVariants as percpu
use Rattle.vms_file_order.specs.LanePasses.{PassSteps}

-- in the page counters a Split begins a pass and a Join ends one
abbrev pub page_passes : PassSteps Step page_steps.role
page_passes = record {
  begin = λ q who. page.Split q who;
  end = λ q. page.Join q;
  begins = λ q who. refl;
  ends = λ q. refl;
}

-- in the event counters a Split begins a pass and a Join ends one
abbrev pub event_passes : PassSteps EventStep event_steps.role
event_passes = record {
  begin = λ q who. event.Split q who;
  end = λ q. event.Join q;
  begins = λ q who. refl;
  ends = λ q. refl;
}

-- in the percpu counters a Split begins a pass and a Join ends one
abbrev pub pcpu_passes : PassSteps PcpuStep pcpu_steps.role
pcpu_passes = record {
  begin = λ q who. percpu.Split q who;
  end = λ q. percpu.Join q;
  begins = λ q who. refl;
  ends = λ q. refl;
}

-- a step on the percpu counters that didn't find a lock held
abbrev pub FindsLockFree : PcpuStep → Type 0
FindsLockFree (Missed j) = ⊥
FindsLockFree _ = Unit {0}

-- on the event counters no step meets another caller
abbrev pub MeetsNobody : EventStep → Type 0
MeetsNobody step = Unit {0}

-- what an act makes on the event counters, by any pass and wherever it begins
abbrev pub event_makes : EventFacts → Lane → ℕ → Act → List (Event EventStep) → List EventStep → Type 0
event_makes facts lane p act h steps = EventSteps facts lane act steps

-- the same on the percpu counters
abbrev pub pcpu_makes : PcpuFacts → Lane → ℕ → Act → List (Event PcpuStep) → List PcpuStep → Type 0
pcpu_makes facts lane p act h steps = PcpuSteps facts lane act steps
