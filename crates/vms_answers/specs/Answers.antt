-- What lines answer, and what the steps of an act tell of it.
use Rattle.std.specs.Prelude.{◌≡◌, List, [], ◌++◌, Option, Some, None}
use Rattle.vms_calls.specs.PageCalls.{read_page_call}
use Rattle.vms_calls.specs.declared.page_calls.PageAnswer.{PageAnswer}
use Rattle.vms_calls.specs.declared.page_calls.PageAnswer.TheVariants as pages
use Rattle.vms_calls.specs.declared.page_calls.PageCall.{PageCall}
use Rattle.vms_world.specs.Common.{Header, CpuId, Step, EventAnswer, Total as EventTotal, EventCall, EventFacts}
use Rattle.vms_world.specs.Common.{EventStep, read_event_call, PcpuAnswer, PcpuCall, PcpuFacts, PcpuStep}
use Rattle.vms_world.specs.Common.{read_pcpu_call, Act, Lane, event_call, pcpu_call, event_facts, pcpu_facts, owner_of}
use Rattle.vms_world.specs.Common.{page_call}
use Rattle.vms_event_core.specs.declared.call_values.EventAnswer.TheVariants.{Done}
use Rattle.vms_pcpu_core.specs.declared.answers.PcpuAnswer.TheVariants as kinds
use Rattle.vms_world.specs.declared.worlds.World.{World}
use Rattle.vms_answers.specs.declared.answers.Answer.{Answer}
use Rattle.vms_answers.specs.declared.answers.Answer.TheVariants.{Tested, Value, Snapshot, System, Events, Count, Total}
use Rattle.vms_answers.specs.declared.answers.Answer.TheVariants.{Compared, Limited, Balanced}

-- steps of one lane's pass in each table, the oldest first
pub record LaneSteps : Type 0 where
  pub pages : List Step
  pub events : List EventStep
  pub counters : List PcpuStep

-- steps in one table alone
abbrev pub on_pages : List Step → LaneSteps
on_pages steps = record { pages = steps; events = []; counters = [] }

abbrev pub on_events : List EventStep → LaneSteps
on_events steps = record { pages = []; events = steps; counters = [] }

abbrev pub on_counters : List PcpuStep → LaneSteps
on_counters steps = record { pages = []; events = []; counters = steps }

abbrev pub no_steps : LaneSteps
no_steps = record { pages = []; events = []; counters = [] }

-- these steps, and then those
abbrev pub then_steps : LaneSteps → LaneSteps → LaneSteps
then_steps first rest = record {
  pages = first.pages ++ rest.pages;
  events = first.events ++ rest.events;
  counters = first.counters ++ rest.counters;
}

-- what was read of a table, as an answer or nothing, with the steps after it
abbrev pub told : {A K : Type 0} → (A → Option Answer) → A × List K → Option Answer × List K
told tell (answer, rest) = (tell answer, rest)

-- the answer of a line by that of its call on the page counters
abbrev pub page_told : PageAnswer → Option Answer
page_told pages.Done = None
page_told (pages.Tested verdict) = Some (Tested verdict)
page_told (pages.Value value) = Some (Value value)
page_told (pages.Snapshot value) = Some (Snapshot value)
page_told (pages.System value) = Some (System value)
page_told (pages.Balanced balance) = Some (Balanced balance)

-- what the steps of a pass on the page counters answer that begin with those of the call of an act, if it makes one,
-- and the steps after them; the pass owns a CPU or none
abbrev pub read_page_act : Header → Option CpuId → Option PageCall → List Step → Option Answer × List Step
read_page_act header owner None steps = (None, steps)
read_page_act header owner (Some call) steps = told page_told (read_page_call header call owner steps)

-- the answer of a line by that of its call on the event counters
abbrev pub event_told : EventAnswer → Option Answer
event_told Done = None
event_told (EventTotal sum) = Some (Events sum)

-- the same on the event counters, by the call that the act makes there
abbrev pub read_event_act : EventFacts → Option EventCall → List EventStep → Option Answer × List EventStep
read_event_act facts None steps = (None, steps)
read_event_act facts (Some call) steps = told event_told (read_event_call facts call steps)

-- the answer of a line by that of its call on the percpu counters
abbrev pub pcpu_told : PcpuAnswer → Option Answer
pcpu_told kinds.Done = None
pcpu_told (kinds.Limited made) = Some (Limited made)
pcpu_told (kinds.Compared answer) = Some (Compared answer)
pcpu_told (kinds.Total sum) = Some (Total sum)
pcpu_told (kinds.Count count) = Some (Count count)

-- the same on the percpu counters
abbrev pub read_pcpu_act : PcpuFacts → Option PcpuCall → List PcpuStep → Option Answer × List PcpuStep
read_pcpu_act facts None steps = (None, steps)
read_pcpu_act facts (Some call) steps = told pcpu_told (read_pcpu_call facts call steps)

-- an answer, or else that one
abbrev pub first_answer : Option Answer → Option Answer → Option Answer
first_answer (Some answer) other = Some answer
first_answer None other = other

-- what was read of the three tables: one of them answers at most
abbrev pub joined : Option Answer × List Step → Option Answer × List EventStep → Option Answer × List PcpuStep
    → Option Answer × LaneSteps
joined pages events counters = (
  first_answer pages.0 (first_answer events.0 counters.0),
  record { pages = pages.1; events = events.1; counters = counters.1 },
)

-- what the steps of a lane answer that begin with those of an act in a phase from this world, and the steps after them
abbrev pub read_act : Header → World → Lane → Act → LaneSteps → Option Answer × LaneSteps
read_act header w lane act steps = joined (read_page_act header (owner_of lane) (page_call lane act) steps.pages)
    (read_event_act (event_facts header w) (event_call lane act) steps.events)
    (read_pcpu_act (pcpu_facts header w) (pcpu_call lane act) steps.counters)

-- steps in the three tables tell this answer of an act, or none, whatever follows them
abbrev pub Tell : Header → World → Lane → Act → LaneSteps → Option Answer → Type 0
Tell header w lane act steps answer = (rest : LaneSteps) → read_act header w lane act (then_steps steps rest)
    ≡ (answer, rest)
