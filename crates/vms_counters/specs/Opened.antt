-- What contracts see of open counters, and what these keep between two calls.
use Rattle.std.specs.Prelude.{◌≡◌, ℕ, Bool, true, false, List, length, replicate, slice_index_or, slice_set, Option}
use Rattle.std.specs.Prelude.{Some, None, All, IsSome}
use Rattle.vms_world.specs.Common.{CpuId, CpuVolumes, EventFacts, Event, EventStep, Facts, Header, IsHeader, PcpuFacts}
use Rattle.vms_world.specs.Common.{PcpuStep, Step, ZoneSize, AreAnswers, IsFree, MayOwnCpu, counter_count, event_count}
use Rattle.vms_world.specs.Common.{event_facts, events, numbers_after, page_facts, pages, pcpu_facts, percpu, settled}
use Rattle.vms_world.specs.Common.{started}
use Rattle.vms_world.specs.declared.worlds.World.{World}
use Rattle.vms_core.specs.Cells.{HasShape}
use Rattle.vms_core.specs.Pages.{state_after}
use Rattle.vms_core.specs.declared.steps.Step.TheVariants as page_steps
use Rattle.vms_event_core.specs.Events as event_histories
use Rattle.vms_event_core.specs.declared.steps.EventStep.TheVariants as event_steps
use Rattle.vms_pcpu_core.specs.declared.steps.PcpuStep.TheVariants as pcpu_steps
use Rattle.vms_core.specs.Steps as page_roles
use Rattle.vms_event_core.specs.Steps as event_roles
use Rattle.vms_pcpu_core.specs.Histories as pcpu_histories
use Rattle.vms_pcpu_core.specs.Steps as pcpu_roles
use Rattle.vms_history.specs.Legal.{IsComplete}
use Rattle.vms_seats.specs.Common.{HasBegun, HasEnded}
use Rattle.vms_words.specs.PagePasses as page_passes
use Rattle.vms_event.specs.CpuPasses as event_passes
use Rattle.vms_pcpu.specs.IdlePasses as pcpu_passes
use Rattle.vms_tables.specs.Common.{AreTables, HaveSeenNothing, TablePasses}
use Rattle.vms_tables.specs.declared.tables.Tables.{Tables}
use Rattle.vms_counters.specs.declared.closing.Closed.{Closed}
use Rattle.vms_counters.specs.Handles.{AnyHandle, passes_of, volumes_of}
use Rattle.vms_counters.specs.Owning.{KnowsPasses}

-- the header and the tables; the main passes, which begin and end the handles' passes; by CPU what it has changed each
-- counter, event and percpu counter by since the counters were opened, in absolute sum: none while a handle has it; and
-- whether a control handle may begin
pub record Opened : Type 0 where
  pub header : Header
  pub tables : Tables
  pub mains : TablePasses
  pub volumes : List (Option CpuVolumes)
  pub control : Bool

-- the volumes that are kept for a CPU
abbrev pub kept_of : Opened → ℕ → Option CpuVolumes
kept_of opened c = slice_index_or opened.volumes c None

-- volumes hold what this CPU has spent in a table
abbrev pub HoldsPages : Facts → List (Event Step) → CpuId → CpuVolumes → Type 0
HoldsPages facts h cpu volumes = page_passes.HoldsSpending facts.layout h cpu.number volumes.page

abbrev pub HoldsEvents : EventFacts → List (Event EventStep) → CpuId → CpuVolumes → Type 0
HoldsEvents facts h cpu volumes = event_passes.HoldsSpending h cpu.number volumes.event

abbrev pub HoldsPcpu : PcpuFacts → List (Event PcpuStep) → CpuId → CpuVolumes → Type 0
HoldsPcpu facts h cpu volumes = pcpu_passes.HoldsSpending facts h cpu.number volumes.pcpu

-- what open counters keep between two calls: each main pass knows of every CPU whether a handle owns it
pub record AreKept (tables : Tables) (last : World) (mains : TablePasses) (volumes : List (Option CpuVolumes))
    (control : Bool) : Type 0 where
  pub pages : KnowsPasses pages HoldsPages tables.pages mains.pages volumes control
  pub events : KnowsPasses events HoldsEvents tables.events mains.events volumes control
  pub counters : KnowsPasses percpu HoldsPcpu tables.counters mains.counters volumes control
  pub one_each : length volumes ≡ tables.pages.facts.layout.cpus
  pub shaped : HasShape tables.pages.facts.layout last.pages
  pub states : last.pages.cpu ≡ tables.pages.facts.base.cpu
  pub words : length last.events.words ≡ length tables.events.facts.base.words

-- so it is with counters, whose header is valid
pub record AreCounters (header : Header) (tables : Tables) (last : World) (mains : TablePasses)
    (volumes : List (Option CpuVolumes)) (control : Bool) : Type 0 where
  pub valid : IsHeader header
  pub are : AreTables header tables
  pub kept : AreKept tables last mains volumes control

-- no CPU has changed anything
abbrev pub no_volumes : Header → CpuVolumes
no_volumes header = record {
  page = replicate (counter_count header.layout) 0;
  event = replicate event_count 0;
  pcpu = replicate (length header.counters) 0;
}

-- counters that begin with a world: no step was made, and no CPU has changed anything
pub record AreOpenedAt (header : Header) (w : World) (opened : Opened) : Type 0 where
  pub same : opened.header ≡ header
  pub pages : opened.mains.pages.facts ≡ page_facts header w
  pub events : opened.mains.events.facts ≡ event_facts header w
  pub counters : opened.mains.counters.facts ≡ pcpu_facts header w
  pub nothing_seen : HaveSeenNothing opened.mains
  pub volumes : opened.volumes ≡ replicate header.layout.cpus (Some (no_volumes header))
  pub control : opened.control ≡ true

-- counters that were opened with a header and a rule of thresholds begin as a run does
pub record AreOpened (header : Header) (normal : ZoneSize → ℕ → ℕ → Type 0) (opened : Opened) : Type 0 where
  pub zones : List ℕ
  pub answers : AreAnswers header normal header.layout.cpus zones
  pub opens : AreOpenedAt header (started header zones) opened

-- no pass that owns this CPU lives, or none that owns none
pub record AreFree (mains : TablePasses) (who : Option CpuId) : Type 0 where
  pub pages : IsFree page_roles.role mains.pages.seen who
  pub events : IsFree event_roles.role mains.events.seen who
  pub counters : IsFree pcpu_roles.role mains.counters.seen who

-- passes that own this CPU may begin, with these volumes
pub record MayBegin (tables : Tables) (mains : TablePasses) (cpu : CpuId) (volumes : CpuVolumes) : Type 0 where
  pub online_pages : MayOwnCpu tables.pages.facts.layout tables.pages.facts.base.cpu (Some cpu)
  pub online_events : event_histories.MayOwn mains.events.facts (Some cpu)
  pub online_counters : pcpu_histories.MayOwn mains.counters.facts (Some cpu)
  pub free : AreFree mains (Some cpu)
  pub pages : HoldsPages tables.pages.facts mains.pages.seen cpu volumes
  pub events : HoldsEvents mains.events.facts mains.events.seen cpu volumes
  pub counters : HoldsPcpu mains.counters.facts mains.counters.seen cpu volumes

-- the main passes began passes that own this CPU, or none
pub record BeginsPasses (who : Option CpuId) (new old passes : TablePasses) : Type 0 where
  pub pages : HasBegun pages page_steps.Split new.pages old.pages passes.pages who
  pub events : HasBegun events event_steps.Split new.events old.events passes.events who
  pub counters : HasBegun percpu pcpu_steps.Split new.counters old.counters passes.counters who

-- they ended passes
pub record EndsPasses (new old passes : TablePasses) : Type 0 where
  pub pages : HasEnded pages page_steps.Join new.pages old.pages passes.pages
  pub events : HasEnded events event_steps.Join new.events old.events passes.events
  pub counters : HasEnded percpu pcpu_steps.Join new.counters old.counters passes.counters

-- the handle is one of these counters
abbrev pub IsOf : AnyHandle → Opened → Type 0
IsOf handle opened = handle.tables ≡ opened.tables

-- the counters are those that they were
abbrev pub IsSame : Opened → Opened → Type 0
IsSame new old = (new.header ≡ old.header) × (new.tables ≡ old.tables)

-- a handle was begun on a CPU, with the volumes that were kept for it
pub record BeginsHandle (new old : Opened) (cpu : CpuId) (handle : AnyHandle) : Type 0 where
  pub header : handle.page.header ≡ old.header
  pub of : IsOf handle old
  pub same : IsSame new old
  pub begun : BeginsPasses (Some cpu) new.mains old.mains (passes_of handle)
  pub volumes_were : kept_of old cpu.number ≡ Some (volumes_of handle)
  pub volumes : new.volumes ≡ slice_set old.volumes cpu.number None
  pub control : new.control ≡ old.control

-- a handle was ended, and its volumes are kept for its CPU
pub record EndsHandle (new old : Opened) (handle : AnyHandle) : Type 0 where
  pub same : IsSame new old
  pub ended : EndsPasses new.mains old.mains (passes_of handle)
  pub cpu : CpuId
  pub owned : handle.page.pass.cpu ≡ Some cpu
  pub volumes : new.volumes ≡ slice_set old.volumes cpu.number (Some (volumes_of handle))
  pub control : new.control ≡ old.control

-- a control handle was begun
pub record BeginsControl (new old : Opened) (handle : AnyHandle) : Type 0 where
  pub header : handle.page.header ≡ old.header
  pub of : IsOf handle old
  pub same : IsSame new old
  pub begun : BeginsPasses None new.mains old.mains (passes_of handle)
  pub volumes : new.volumes ≡ old.volumes
  pub control : (old.control ≡ true) × (new.control ≡ false)

-- a control handle was ended
pub record EndsControl (new old : Opened) (handle : AnyHandle) : Type 0 where
  pub same : IsSame new old
  pub ended : EndsPasses new.mains old.mains (passes_of handle)
  pub volumes : new.volumes ≡ old.volumes
  pub control : new.control ≡ true

-- the counters were closed: each history is what its main pass had seen, complete, and its table is left as it stands
-- at its end
pub record AreClosed (opened : Opened) (closed : Closed) : Type 0 where
  pub all_kept : All IsSome opened.volumes
  pub no_control : opened.control ≡ true
  pub page_history : closed.page_history
      ≡ record { facts = opened.mains.pages.facts; events = opened.mains.pages.seen }
  pub event_history : closed.event_history
      ≡ record { facts = opened.mains.events.facts; events = opened.mains.events.seen }
  pub pcpu_history : closed.pcpu_history
      ≡ record { facts = opened.mains.counters.facts; events = opened.mains.counters.seen }
  pub pages_complete : IsComplete pages closed.page_history.facts closed.page_history.events
  pub events_complete : IsComplete events closed.event_history.facts closed.event_history.events
  pub counters_complete : IsComplete percpu closed.pcpu_history.facts closed.pcpu_history.events
  pub pages : closed.pages ≡ settled (state_after closed.page_history.facts closed.page_history.events)
  pub events : closed.events
      ≡ event_histories.state_after closed.event_history.facts closed.event_history.events
  pub counters : closed.counters ≡ numbers_after closed.pcpu_history.facts closed.pcpu_history.events
