-- The world that a run begins with.
use Rattle.std.specs.Prelude.{ℕ, ◌*◌, nat_eq, ℤ, pos, List, length, map, replicate, None, if◌then◌else◌, slice_index_or}
use Rattle.vms_calls.specs.Common.{Header, Online, counter_count, item_count, item_of, place_count, sum_below, State}
use Rattle.vms_event_core.specs.Common.{event_count}
use Rattle.vms_world.specs.declared.worlds.World.{World}
use Rattle.vms_world.specs.Listed.{listed}
use Rattle.vms_world.specs.Refreshes.{refreshed}

-- the base of a counter, and of an item: the sum over its counters
abbrev pub base_of : Header → ℕ → ℤ
base_of header k = slice_index_or header.bases k (pos 0)

abbrev pub base_of_item : Header → ℕ → ℤ
base_of_item header i =
    sum_below (λ k. if nat_eq (item_of header.layout k) i then base_of header k else pos 0)
    (counter_count header.layout)

-- the page counters before any threshold is set: every CPU is online, each counter has its base, and all else is 0
abbrev pub bare_pages : Header → State
bare_pages header = record {
  place = header.bases;
  system = listed (base_of_item header) (item_count header.layout);
  diff = replicate (header.layout.cpus * counter_count header.layout) (pos 0);
  threshold = replicate (header.layout.cpus * place_count header.layout) 0;
  mark = replicate (length header.layout.zones) 0;
  cpu = replicate header.layout.cpus Online;
  acknowledged = replicate (header.layout.cpus * length header.layout.zones) None;
  threshold_sets = replicate (header.layout.cpus * place_count header.layout) 0;
  mark_sets = replicate (length header.layout.zones) 0;
}

-- the world of these page counters in which no event, no percpu counter and no volume counts anything
abbrev pub with_nothing_counted : Header → State → World
with_nothing_counted header s = record {
  pages = s;
  events = record { words = replicate (header.layout.cpus * event_count) 0 };
  counters = record {
    batch = map (λ decl. decl.batch) header.counters;
    count = replicate (length header.counters) (pos 0);
    local = replicate (header.layout.cpus * length header.counters) (pos 0);
  };
  volumes = record {
    pages = replicate (header.layout.cpus * counter_count header.layout) 0;
    events = replicate (header.layout.cpus * event_count) 0;
    counters = replicate (header.layout.cpus * length header.counters) 0;
  };
}

-- the world that a run begins with, where these are the thresholds of the zones
abbrev pub started : Header → List ℕ → World
started header zones = with_nothing_counted header (refreshed header zones (bare_pages header))
