-- What the passes of a lane make of its lines.
use Rattle.std.specs.Prelude.{◌≡◌, ℕ, List, ◌++◌, map}
use Rattle.vms_world.specs.Common.{Header, ZoneSize, Event, percpu, LaneItem, Act, Lane, EventSteps, PageSteps}
use Rattle.vms_world.specs.Common.{PcpuSteps, MakesActs, event_facts, pcpu_facts}
use Rattle.vms_core.specs.Pages as page_histories
use Rattle.vms_event_core.specs.Events as event_histories
use Rattle.vms_seats.specs.Common.{Made}
use Rattle.vms_world.specs.declared.worlds.World.{World}
use Rattle.vms_answers.specs.Common.{LaneSteps, then_steps, NumberedAnswer, read_lane}
use Rattle.vms_tables.specs.Common.{TablePasses}

-- the acts of lines
abbrev pub acts_in : List LaneItem → List Act
acts_in items = map (λ item. item.act) items

-- whatever acts pass p has made before, it has made these after them
abbrev pub GoesOnWith : {K : Type 0} → (Act → List (Event K) → List K → Type 0) → ℕ → List Act → List (Event K)
    → List (Event K) → Type 0
GoesOnWith makes p acts later earlier = (before : List Act) → MakesActs makes p before earlier →
    MakesActs makes p (before ++ acts) later

-- the passes of a lane made its lines one after another in a phase from this world, whatever others did in between, and
-- nothing else: their steps are those of the acts in order, and tell these answers
pub record MakeLines (header : Header) (pressure normal : ZoneSize → ℕ → ℕ → Type 0) (w : World) (lane : Lane)
    (items : List LaneItem) (new old : TablePasses) (answers : List NumberedAnswer) : Type 0 where
  pub steps : LaneSteps
  pub pages : Made page_histories.pages new.pages old.pages steps.pages
  pub events : Made event_histories.events new.events old.events steps.events
  pub counters : Made percpu new.counters old.counters steps.counters
  pub page_acts : GoesOnWith (PageSteps header w.pages pressure normal lane old.pages.number) old.pages.number
      (acts_in items) new.pages.seen old.pages.seen
  pub event_acts : GoesOnWith (λ act h. EventSteps (event_facts header w) lane act) old.events.number
      (acts_in items) new.events.seen old.events.seen
  pub pcpu_acts : GoesOnWith (λ act h. PcpuSteps (pcpu_facts header w) lane act) old.counters.number
      (acts_in items) new.counters.seen old.counters.seen
  pub tells : (rest : LaneSteps) → read_lane header w lane items (then_steps steps rest) ≡ (answers, rest)
