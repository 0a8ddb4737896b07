-- Which worlds belong to a header.
use Rattle.std.specs.Prelude.{◌≡◌, ℕ, ◌*◌, ◌<◌, ◌≤◌, ◌≤ℤ◌, pos, ◌+ℤ◌, unsigned_abs, List, length, map, slice_index_or}
use Rattle.vms_calls.specs.Common.{Header, Shape, cell, counter_count, most_volume, count_below, Facts, IsWithinVolumes}
use Rattle.vms_calls.specs.Common.{facts_of}
use Rattle.vms_core.specs.Bases as pages
use Rattle.vms_event_core.specs.declared.steps.EventFacts.{EventFacts}
use Rattle.vms_event_core.specs.Bases as events
use Rattle.vms_event_core.specs.Common.{IsEvent, event_count, sum_of_words}
use Rattle.vms_pcpu_core.specs.declared.steps.PcpuFacts.{PcpuFacts}
use Rattle.vms_pcpu_core.specs.Bases as percpu
use Rattle.vms_pcpu_core.specs.Common.{count_at, locals}
use Rattle.vms_world.specs.declared.worlds.World.{World}

-- what the page counters are told of a phase from this world. The same CPUs are online, dead and absent in all tables
abbrev pub page_facts : Header → World → Facts
page_facts header w = facts_of header w.pages

-- what the event counters are told of a phase from this world
abbrev pub event_facts : Header → World → EventFacts
event_facts header w = record { layout = header.layout; cpus = w.pages.cpu; base = w.events }

-- what the percpu counters are told of a phase from this world
abbrev pub pcpu_facts : Header → World → PcpuFacts
pcpu_facts header w = record { layout = header.layout; cpus = w.pages.cpu; base = w.counters }

-- the volume of CPU c on thing k, in a list of volumes that has `width` for each CPU
abbrev pub volume_in : List ℕ → ℕ → ℕ → ℕ → ℕ
volume_in volumes width c k = slice_index_or volumes (cell width c k) 0

-- the volume of CPU c on page counter k
abbrev pub page_volume : Header → World → ℕ → ℕ → ℕ
page_volume header w c k = volume_in w.volumes.pages (counter_count header.layout) c k

-- the volume of CPU c on event k
abbrev pub event_volume : World → ℕ → ℕ → ℕ
event_volume w c k = volume_in w.volumes.events event_count c k

-- the volume of CPU c on percpu counter j
abbrev pub pcpu_volume : Header → World → ℕ → ℕ → ℕ
pcpu_volume header w c j = volume_in w.volumes.counters (length header.counters) c j

-- what all CPUs changed thing k by
abbrev pub volumes_on : Shape → (ℕ → ℕ → ℕ) → ℕ → ℕ
volumes_on shape volume k = count_below (λ c. volume c k) shape.cpus

-- a volume for each CPU and each of `width` things, none larger than a CPU may change a thing by
pub record AreVolumes (shape : Shape) (width : ℕ) (volumes : List ℕ) : Type 0 where
  pub one_each : length volumes ≡ shape.cpus * width
  pub most : (c k : ℕ) → c < shape.cpus → k < width → volume_in volumes width c k ≤ most_volume

-- all words of an event are in sum at most what the CPUs counted of it
abbrev pub AreCounted : Shape → World → Type 0
AreCounted shape w = (k : ℕ) → IsEvent k → sum_of_words shape w.events k ≤ℤ pos (volumes_on shape (event_volume w) k)

-- the shared part of a percpu counter with all local parts is in absolute size at most what the CPUs added to it
abbrev pub AreAdded : Header → World → Type 0
AreAdded header w = (j : ℕ) → j < length header.counters →
    unsigned_abs (count_at w.counters j +ℤ locals header.layout w.counters j)
    ≤ volumes_on header.layout (pcpu_volume header w) j

-- a world of a run with this header
pub record IsWorldOf (header : Header) (w : World) : Type 0 where
  -- each table's histories may begin with its part
  pub page_base : pages.IsBase (page_facts header w)
  pub event_base : events.IsBase (event_facts header w)
  pub pcpu_base : percpu.IsBase (pcpu_facts header w)
  pub batches : w.counters.batch ≡ map (λ decl. decl.batch) header.counters
  pub page_volumes : AreVolumes header.layout (counter_count header.layout) w.volumes.pages
  pub event_volumes : AreVolumes header.layout event_count w.volumes.events
  pub pcpu_volumes : AreVolumes header.layout (length header.counters) w.volumes.counters
  -- nothing adds up to more than the volumes, for a page counter beside its base, and each system-wide value is the sum
  -- of the global values of its counters
  pub pages_within : IsWithinVolumes header.layout (page_volume header w) w.pages
  pub events_within : AreCounted header.layout w
  pub pcpu_within : AreAdded header w
