-- The three tables of a phase, as contracts see them.
use Rattle.std.specs.Prelude.{◌≡◌, [], length}
use Rattle.vms_world.specs.Common.{Header, event_facts, page_facts, pcpu_facts}
use Rattle.vms_pcpu_core.specs.States.{counters_of}
use Rattle.vms_world.specs.declared.worlds.World.{World}
use Rattle.vms_tables.specs.declared.tables.Tables.{Tables}

-- the world with which the tables began, but for its volumes: those are kept by passes
abbrev pub world_of : Tables → World
world_of tables = record {
  pages = tables.pages.facts.base;
  events = tables.events.facts.base;
  counters = tables.counters.facts.base;
  volumes = record { pages = []; events = []; counters = [] };
}

-- the tables are those of one phase of a run with this header: each was told what a phase from their world is told, so
-- that the same CPUs are online, dead and absent in all, and there is a percpu counter for each that the header
-- declares
pub record AreTables (header : Header) (tables : Tables) : Type 0 where
  pub pages : tables.pages.facts ≡ page_facts header (world_of tables)
  pub events : tables.events.facts ≡ event_facts header (world_of tables)
  pub counters : tables.counters.facts ≡ pcpu_facts header (world_of tables)
  pub declared : counters_of tables.counters.facts.base ≡ length header.counters

-- the tables began with this world
pub record AreMadeFrom (w : World) (tables : Tables) : Type 0 where
  pub pages : tables.pages.facts.base ≡ w.pages
  pub events : tables.events.facts.base ≡ w.events
  pub counters : tables.counters.facts.base ≡ w.counters
