-- What the passes of a lane make of the act of a line.
use Rattle.std.specs.Prelude.{ℕ, Option}
use Rattle.vms_world.specs.Common.{Header, ZoneSize, percpu, Act, Lane, EventSteps, PageSteps, PcpuSteps, event_facts}
use Rattle.vms_world.specs.Common.{pcpu_facts}
use Rattle.vms_core.specs.Pages as page_histories
use Rattle.vms_event_core.specs.Events as event_histories
use Rattle.vms_seats.specs.Common.{Made}
use Rattle.vms_world.specs.declared.worlds.World.{World}
use Rattle.vms_answers.specs.declared.answers.Answer.{Answer}
use Rattle.vms_answers.specs.Common.{LaneSteps, Tell}
use Rattle.vms_tables.specs.Common.{TablePasses}

-- the passes of a lane made the act of a line in a phase from this world, whatever others did in between: in each table
-- they made the steps of the act and no others, and these tell its answer, or none
pub record MakeAct (header : Header) (pressure normal : ZoneSize → ℕ → ℕ → Type 0) (w : World) (lane : Lane)
    (act : Act) (new old : TablePasses) (answer : Option Answer) : Type 0 where
  pub steps : LaneSteps
  pub page_act : PageSteps header w.pages pressure normal lane old.pages.number act old.pages.seen steps.pages
  pub event_act : EventSteps (event_facts header w) lane act steps.events
  pub pcpu_act : PcpuSteps (pcpu_facts header w) lane act steps.counters
  pub pages : Made page_histories.pages new.pages old.pages steps.pages
  pub events : Made event_histories.events new.events old.events steps.events
  pub counters : Made percpu new.counters old.counters steps.counters
  pub tells : Tell header w lane act steps answer
