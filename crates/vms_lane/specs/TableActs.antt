-- What a pass makes of an act that concerns its table alone.
use Rattle.std.specs.Prelude.{◌≡◌, ℕ, List, Option}
use Rattle.vms_world.specs.Common.{Header, ZoneSize, own, State, Facts, Step, EventFacts, EventStep, PcpuFacts}
use Rattle.vms_world.specs.Common.{PcpuStep, percpu, Act, Lane, EventSteps, PageSteps, PcpuSteps, event_facts}
use Rattle.vms_world.specs.Common.{pcpu_facts}
use Rattle.vms_core.specs.Own.{CarriesNothing}
use Rattle.vms_core.specs.Pages as page_histories
use Rattle.vms_event_core.specs.Events as event_histories
use Rattle.vms_seats.specs.Common.{Pass, Made}
use Rattle.vms_world.specs.declared.worlds.World.{World}
use Rattle.vms_answers.specs.declared.answers.Answer.{Answer}
use Rattle.vms_answers.specs.Common.{Tell, on_counters, on_events, on_pages}

-- the pass on the page counters made the steps of an act and no others, which tell its answer, and carries nothing
-- after them
pub record MakesOnPages (header : Header) (pressure normal : ZoneSize → ℕ → ℕ → Type 0) (base : State) (lane : Lane)
    (act : Act) (new old : Pass Facts Step) (answer : Option Answer) : Type 0 where
  pub steps : List Step
  pub is_act : PageSteps header base pressure normal lane old.number act old.seen steps
  pub made : Made page_histories.pages new old steps
  pub tells : (w : World) → Tell header w lane act (on_pages steps) answer
  pub nothing : CarriesNothing header.layout (own new.seen new.number)

-- the same of the event counters
pub record MakesOnEvents (header : Header) (facts : EventFacts) (lane : Lane) (act : Act)
    (new old : Pass EventFacts EventStep) (answer : Option Answer) : Type 0 where
  pub steps : List EventStep
  pub is_act : EventSteps facts lane act steps
  pub made : Made event_histories.events new old steps
  pub tells : (w : World) → facts ≡ event_facts header w → Tell header w lane act (on_events steps) answer

-- the same of the percpu counters
pub record MakesOnCounters (header : Header) (facts : PcpuFacts) (lane : Lane) (act : Act)
    (new old : Pass PcpuFacts PcpuStep) (answer : Option Answer) : Type 0 where
  pub steps : List PcpuStep
  pub is_act : PcpuSteps facts lane act steps
  pub made : Made percpu new old steps
  pub tells : (w : World) → facts ≡ pcpu_facts header w → Tell header w lane act (on_counters steps) answer
