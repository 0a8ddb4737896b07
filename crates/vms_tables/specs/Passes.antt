-- The passes of a lane on the three tables, as contracts see them.
use Rattle.std.specs.Prelude.{◌≡◌, [], length, Option}
use Rattle.vms_world.specs.Common.{CpuId, counter_count, Facts, Step, EventFacts, EventStep, event_count, PcpuFacts}
use Rattle.vms_world.specs.Common.{PcpuStep, percpu}
use Rattle.vms_core.specs.Pages as page_histories
use Rattle.vms_event_core.specs.Events as event_histories
use Rattle.vms_pcpu_core.specs.States.{counters_of}
use Rattle.vms_seats.specs.Common.{IsLive, IsFrom, Pass}
use Rattle.vms_tables.specs.declared.passes.CpuPasses.{CpuPasses}
use Rattle.vms_tables.specs.declared.tables.MainPasses.{MainPasses}
use Rattle.vms_tables.specs.declared.tables.Tables.{Tables}

-- a pass in each table, whether or not they own a CPU
pub record TablePasses : Type 0 where
  pub pages : Pass Facts Step
  pub events : Pass EventFacts EventStep
  pub counters : Pass PcpuFacts PcpuStep

-- those of a CPU's lane
abbrev pub passes_of : CpuPasses → TablePasses
passes_of passes = record { pages = passes.page.pass; events = passes.event.pass; counters = passes.pcpu.pass }

-- the main passes
abbrev pub mains_of : MainPasses → TablePasses
mains_of mains = record { pages = mains.page; events = mains.event; counters = mains.pcpu }

-- each was made from its table
pub record AreFrom (tables : Tables) (passes : TablePasses) : Type 0 where
  pub pages : IsFrom passes.pages tables.pages
  pub events : IsFrom passes.events tables.events
  pub counters : IsFrom passes.counters tables.counters

-- no step was made yet that they know of
pub record HaveSeenNothing (passes : TablePasses) : Type 0 where
  pub pages : passes.pages.seen ≡ []
  pub events : passes.events.seen ≡ []
  pub counters : passes.counters.seen ≡ []

-- all three own this CPU, or none does
pub record AllOwn (who : Option CpuId) (passes : TablePasses) : Type 0 where
  pub pages : passes.pages.cpu ≡ who
  pub events : passes.events.cpu ≡ who
  pub counters : passes.counters.cpu ≡ who

-- each lives in the legal history that it has seen
pub record AreLive (passes : TablePasses) : Type 0 where
  pub pages : IsLive page_histories.pages passes.pages
  pub events : IsLive event_histories.events passes.events
  pub counters : IsLive percpu passes.counters

-- there is a volume for each page counter, each event and each percpu counter
pub record HaveVolumes (tables : Tables) (passes : CpuPasses) : Type 0 where
  pub page : length passes.page.volume ≡ counter_count tables.pages.facts.layout
  pub event : length passes.event.volume ≡ event_count
  pub pcpu : length passes.pcpu.volume ≡ counters_of tables.counters.facts.base
