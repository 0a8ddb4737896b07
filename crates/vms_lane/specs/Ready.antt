-- The passes of a lane between two lines.
use Rattle.std.specs.Prelude.{Some}
use Rattle.vms_world.specs.Common.{CpuId, own}
use Rattle.vms_burial.specs.declared.passes.ControlPasses.{ControlPasses}
use Rattle.vms_burial.specs.Passes as burial
use Rattle.vms_core.specs.Own.{CarriesNothing}
use Rattle.vms_tables.specs.declared.passes.CpuPasses.{CpuPasses}
use Rattle.vms_tables.specs.declared.tables.Tables.{Tables}
use Rattle.vms_tables.specs.Common.{AllOwn, AreFrom, HaveVolumes, passes_of}

-- passes of these tables that own CPU c, with a volume for each thing, of which the one on the page counters carries
-- nothing. That the one on the percpu counters carries nothing and holds no lock is kept by its type.
pub record AreReady (tables : Tables) (c : CpuId) (passes : CpuPasses) : Type 0 where
  pub of : AreFrom tables (passes_of passes)
  pub owner : AllOwn (Some c) (passes_of passes)
  pub volumes : HaveVolumes tables passes
  pub nothing : CarriesNothing tables.pages.facts.layout (own passes.page.pass.seen passes.page.pass.number)

-- control passes of these tables, of which the one on the page counters carries nothing. That the others carry nothing,
-- that none holds a lock and that none owns a CPU is kept by their types.
pub record AreReadyToControl (tables : Tables) (passes : ControlPasses) : Type 0 where
  pub of : AreFrom tables (burial.passes_of passes)
  pub nothing : CarriesNothing tables.pages.facts.layout (own passes.page.seen passes.page.number)
