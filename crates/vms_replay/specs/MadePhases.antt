-- A phase of a trace that was made, and what stands after it.
use Rattle.std.specs.Prelude.{List, ◌∷◌, Option, Some, None}
use Rattle.vms_world.specs.Common.{Header, with_cpu, Offline, Flush, Item, brought_up, flushed, taken_down, started}
use Rattle.vms_world.specs.Common.{TableHistories, left_by, count_online, Facts, EventFacts, PcpuFacts, page_facts}
use Rattle.vms_world.specs.Common.{event_facts, pcpu_facts}
use Rattle.vms_base.specs.declared.kinds.CpuState.TheVariants.{Online as IsOnline}
use Rattle.vms_answers.specs.Common.{NumberedAnswer, answers_of}
use Rattle.vms_text.specs.declared.acts.Boundary.{Boundary}
use Rattle.vms_text.specs.declared.acts.Boundary.TheVariants.{Online}
use Rattle.vms_world.specs.declared.worlds.World.{World}
use Rattle.vms_replay.specs.KernelRules.{normal_zones}

-- the world that a run begins with, where the thresholds are the kernel's
abbrev pub first_world : Header → World
first_world header = started header (normal_zones header header.layout.cpus)

-- what the three tables of a phase were told: of each its base, and which CPUs are online, dead and absent
pub record PhaseFacts : Type 0 where
  pub pages : Facts
  pub events : EventFacts
  pub counters : PcpuFacts

-- what they are told of a phase from this world
abbrev pub phase_facts : Header → World → PhaseFacts
phase_facts header w =
    record { pages = page_facts header w; events = event_facts header w; counters = pcpu_facts header w }

-- a phase that was made: the world that it began with, its lines, what its tables were told, and its histories
pub record PastPhase : Type 0 where
  pub world : World
  pub items : List Item
  pub facts : PhaseFacts
  pub histories : TableHistories

-- the phase of these lines from this world that has these histories, of tables that were told of this world
abbrev pub phase_of : Header → World → List Item → TableHistories → PastPhase
phase_of header w items hs = record { world = w; items = items; facts = phase_facts header w; histories = hs }

-- what its lines answered
abbrev pub answers_in : Header → PastPhase → List NumberedAnswer
answers_in header made = answers_of header made.world made.items made.histories

-- the world after it, or the one that stands where no phase was made
abbrev pub world_after : Header → World → Option PastPhase → World
world_after header w None = w
world_after header w (Some made) = left_by header made.world made.items made.histories

-- the phases that were made, the newest first, with the one that ends
abbrev pub with_given : Option PastPhase → List PastPhase → List PastPhase
with_given None made = made
with_given (Some phase) made = phase ∷ made

-- what a boundary line makes of a world, where they are the kernel's too
abbrev pub crossed : Header → Boundary → World → World
crossed header (Offline c) w = taken_down c.number w
crossed header (Online c) w = brought_up header
    (normal_zones header (count_online (with_cpu w.pages c.number IsOnline).cpu)) c.number w
crossed header Flush w = flushed header.layout w
crossed header _ w = w
