-- The control passes in the three tables, and the tables when they are used together.
use Rattle.std.specs.Prelude.{◌≡◌}
use Rattle.vms_burial.specs.declared.passes.ControlPasses.{ControlPasses}
use Rattle.vms_tables.specs.declared.tables.Tables.{Tables}
use Rattle.vms_tables.specs.Common.{TablePasses}

-- a pass in each table
abbrev pub passes_of : ControlPasses → TablePasses
passes_of passes = record { pages = passes.page; events = passes.event; counters = passes.pcpu }

-- the tables were made with the same states of the CPUs
pub record AreAlike (tables : Tables) : Type 0 where
  pub events : tables.events.facts.cpus ≡ tables.pages.facts.base.cpu
  pub counters : tables.counters.facts.cpus ≡ tables.pages.facts.base.cpu
