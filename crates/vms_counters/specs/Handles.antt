-- What contracts see of a handle, and what it keeps between two calls.
use Rattle.std.specs.Prelude.{◌≡◌, ℕ, List, [], Some, None}
use Rattle.vms_core.specs.Own.{CarriesNothing}
use Rattle.vms_world.specs.Common.{CpuId, CpuVolumes, EventFacts, EventStep, Facts, Header, IsHeader, Step, own}
use Rattle.vms_seats.specs.Common.{IsFrom, Pass, Shared}
use Rattle.vms_event.specs.CpuPasses as event_passes
use Rattle.vms_pcpu.specs.IdlePasses as pcpu_passes
use Rattle.vms_burial.specs.declared.passes.ControlPasses.{ControlPasses}
use Rattle.vms_tables.specs.Common.{TablePasses}
use Rattle.vms_tables.specs.declared.passes.CpuPasses.{CpuPasses}
use Rattle.vms_tables.specs.declared.tables.Tables.{Tables}

-- a handle on the page counters: the header of its counters, its pass, and what its CPU has changed each counter by
-- since they were opened, in absolute sum; a control handle has no CPU, and no volumes
pub record PageHandle : Type 0 where
  pub header : Header
  pub pass : Pass Facts Step
  pub volume : List ℕ

-- the same on the event counters and on the percpu counters: its pass, and what its CPU has counted or added
abbrev pub EventHandle : Type 0
EventHandle = event_passes.CpuPass

abbrev pub PcpuHandle : Type 0
PcpuHandle = pcpu_passes.CpuPass

-- a handle: which tables it is of, and what it is in each of the three
pub record AnyHandle : Type 0 where
  pub tables : Tables
  pub page : PageHandle
  pub event : EventHandle
  pub pcpu : PcpuHandle

-- the passes of a handle, and its volumes
abbrev pub passes_of : AnyHandle → TablePasses
passes_of h = record { pages = h.page.pass; events = h.event.pass; counters = h.pcpu.pass }

abbrev pub volumes_of : AnyHandle → CpuVolumes
volumes_of h = record { page = h.page.volume; event = h.event.volume; pcpu = h.pcpu.volume }

-- the volumes of a CPU's passes
abbrev pub volumes_in : CpuPasses → CpuVolumes
volumes_in passes = record { page = passes.page.volume; event = passes.event.volume; pcpu = passes.pcpu.volume }

-- a call on one table leaves the handle in the other two as it was, and of the tables that it was of
abbrev pub OnPages : AnyHandle → AnyHandle → Type 0
OnPages new old = (new.tables ≡ old.tables) × (new.event ≡ old.event) × (new.pcpu ≡ old.pcpu)

abbrev pub OnEvents : AnyHandle → AnyHandle → Type 0
OnEvents new old = (new.tables ≡ old.tables) × (new.page ≡ old.page) × (new.pcpu ≡ old.pcpu)

abbrev pub OnPcpu : AnyHandle → AnyHandle → Type 0
OnPcpu new old = (new.tables ≡ old.tables) × (new.page ≡ old.page) × (new.event ≡ old.event)

-- between two calls the page pass of a handle is of the shared words, and carries nothing
pub record IsBetweenCalls (words : Shared Facts) (pass : Pass Facts Step) : Type 0 where
  pub of : IsFrom pass words
  pub nothing : CarriesNothing words.facts.layout (own pass.seen pass.number)

-- the handle with this page pass
abbrev pub handle_of : Header → Pass Facts Step → List ℕ → PageHandle
handle_of header pass volume = record { header = header; pass = pass; volume = volume }

-- the control handle with these passes
abbrev pub control_of : Header → Tables → ControlPasses → AnyHandle
control_of header tables passes = record {
  tables = tables;
  page = handle_of header passes.page [];
  event = record { pass = passes.event; volume = [] };
  pcpu = record { pass = passes.pcpu; volume = [] };
}

-- the handle with this event pass
abbrev pub event_handle : Pass EventFacts EventStep → List ℕ → EventHandle
event_handle pass volume = record { pass = pass; volume = volume }

-- so it is with a handle of a CPU, whose header is valid
pub record IsHandle (header : Header) (tables : Tables) (cpu : CpuId) (passes : CpuPasses) : Type 0 where
  pub valid : IsHeader header
  pub between : IsBetweenCalls tables.pages passes.page.pass
  pub owns : passes.page.pass.cpu ≡ Some cpu
  pub of_event : IsFrom passes.event.pass tables.events
  pub event : event_passes.IsCpuPass passes.event.pass cpu passes.event.volume
  pub of_pcpu : IsFrom passes.pcpu.pass tables.counters
  pub owns_pcpu : passes.pcpu.pass.cpu ≡ Some cpu

-- the same of a control pass of the page counters, which owns no CPU
pub record IsControlPass (header : Header) (words : Shared Facts) (pass : Pass Facts Step) : Type 0 where
  pub valid : IsHeader header
  pub between : IsBetweenCalls words pass
  pub owns_none : pass.cpu ≡ None

-- so it is with a control handle
pub record IsControlHandle (header : Header) (tables : Tables) (passes : ControlPasses) : Type 0 where
  pub valid : IsHeader header
  pub between : IsBetweenCalls tables.pages passes.page
  pub of_event : IsFrom passes.event tables.events
  pub of_pcpu : IsFrom passes.pcpu tables.counters
