-- What the lines before page counters say of them.
use Rattle.std.specs.Prelude.{ℕ, ◌*◌, List, length, pos, replicate, map}
use Rattle.vms_world.specs.Common.{Header, State, Start, event_count}
use Rattle.vms_world.specs.declared.worlds.World.{World}
use Rattle.vms_file_order.specs.Common.{IsStartOf}

-- the world with these page counters and these volumes of them, in which no event and no percpu counter counts anything
abbrev pub world_with : Header → List ℕ → State → World
world_with header volumes s = record {
  pages = s;
  events = record { words = replicate (header.layout.cpus * event_count) 0 };
  counters = record {
    batch = map (λ decl. decl.batch) header.counters;
    count = replicate (length header.counters) (pos 0);
    local = replicate (header.layout.cpus * length header.counters) (pos 0);
  };
  volumes = record {
    pages = volumes;
    events = replicate (header.layout.cpus * event_count) 0;
    counters = replicate (header.layout.cpus * length header.counters) 0;
  };
}

-- a start says what the lines after these page counters begin with: it is one of a world that has them, with some
-- volumes
pub record IsPageStart (header : Header) (start : Start) (s : State) : Type 0 where
  pub volumes : List ℕ
  pub is : IsStartOf header start (world_with header volumes s)
