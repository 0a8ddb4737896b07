-- How shared words show the event counters, in a row for each CPU that stands apart.
use Rattle.std.specs.Prelude.{◌≡◌, ℕ, ◌*◌, List, [], Option, refl}
use Rattle.vms_history.specs.Common.{CpuId, CpuState, Shape, Begins, Ends}
use Rattle.vms_event_core.specs.declared.states.EventState.{EventState}
use Rattle.vms_event_core.specs.declared.steps.EventFacts.{EventFacts}
use Rattle.vms_event_core.specs.declared.steps.EventStep.{EventStep}
use Rattle.vms_event_core.specs.declared.steps.EventStep.TheVariants.{LoadE, TakeE, Split, Join}
use Rattle.vms_event_core.specs.Common.{IsBase, role, event_count, word_at}
use Rattle.vms_rows.specs.Common.{row_place, row_width}
use Rattle.vms_rows.specs.Rows.{rows_of}
use Rattle.vms_seats.specs.Common.{Shared}

-- each word stands for itself, in the row of its CPU
abbrev pub shown : EventFacts → EventState → List ℕ
shown facts s = rows_of event_count facts.layout.cpus (λ c k. word_at s c k)

-- where the word of a CPU for an event stands
abbrev pub event_place : ℕ → ℕ → ℕ
event_place c k = row_place event_count c k

-- a load and a take tell the number found
abbrev pub told : EventStep → ℕ → EventStep
told (LoadE c k v) found = LoadE c k found
told (TakeE c k v) found = TakeE c k found
told step found = step

pub begins_it : (q : ℕ) (who : Option CpuId) → role (Split q who) ≡ Begins q who
begins_it q who = refl

pub ends_it : (q : ℕ) → role (Join q) ≡ Ends q
ends_it q = refl

-- the facts of no table
abbrev pub no_facts : EventFacts
no_facts = record {
  layout = record { zones = []; nodes = []; cpus = 0; positions = 0 };
  cpus = [];
  base = record { words = [] };
}

-- the words were made for this layout, whose CPUs are in these states, and there is a row for each CPU
pub record AreMadeFor (layout : Shape) (cpus : List CpuState) (words : Shared EventFacts) : Type 0 where
  pub base : IsBase words.facts
  pub same_layout : words.facts.layout ≡ layout
  pub same_cpus : words.facts.cpus ≡ cpus
  pub count : words.table.words ≡ words.facts.layout.cpus * row_width event_count
