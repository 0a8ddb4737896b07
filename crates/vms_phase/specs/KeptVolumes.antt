-- The volumes of a world that take those which the passes of lanes had in the end.
use Rattle.std.specs.Prelude.{◌≡◌, ℕ, ◌*◌, ◌<◌, nat_eq, if◌then◌else◌, List, [], ◌∷◌, length, slice_index_or, Option}
use Rattle.std.specs.Prelude.{Some, None}
use Rattle.vms_world.specs.Common.{Header, CpuVolumes, IsCounter, IsCpu, counter_count, IsEvent, event_count, Lane, Cpu}
use Rattle.vms_world.specs.Common.{Control, volume_in}
use Rattle.vms_world.specs.declared.worlds.Volumes.{Volumes}
use Rattle.vms_phase.specs.declared.lane_joins.JoinedLane.{JoinedLane}

-- there is a volume for each CPU and each thing
pub record HaveAll (header : Header) (v : Volumes) : Type 0 where
  pub pages : length v.pages ≡ header.layout.cpus * counter_count header.layout
  pub events : length v.events ≡ header.layout.cpus * event_count
  pub counters : length v.counters ≡ header.layout.cpus * length header.counters

-- the volumes that a lane gives back, if it is of a CPU, are of a CPU of the header, with one for each thing
abbrev pub HasOwn : Header → Lane → Option CpuVolumes → Type 0
HasOwn header (Cpu c) (Some v) = IsCpu header.layout c.number × (length v.page ≡ counter_count header.layout)
    × (length v.event ≡ event_count) × (length v.pcpu ≡ length header.counters)
HasOwn header (Cpu c) None = Unit {0}
HasOwn header Control v = Unit {0}

-- the volume of CPU c on thing k, in one table, once a lane gave its volumes back: its own where it is of this CPU, and
-- else what it was
abbrev pub given_back : (CpuVolumes → List ℕ) → Lane → Option CpuVolumes → (c k before : ℕ) → ℕ
given_back table (Cpu d) (Some v) c k before = if nat_eq d.number c then slice_index_or (table v) k 0 else before
given_back table (Cpu d) None c k before = before
given_back table Control v c k before = before

-- once these lanes did, one after another
abbrev pub given_back_by : (CpuVolumes → List ℕ) → List JoinedLane → (c k before : ℕ) → ℕ
given_back_by table [] c k before = before
given_back_by table (one ∷ more) c k before =
    given_back_by table more c k (given_back table one.lane one.volumes c k before)

-- all volumes, once these lanes gave theirs back
pub record AreGivenBack (header : Header) (lanes : List JoinedLane) (new old : Volumes) : Type 0 where
  pub all : HaveAll header new
  pub pages : (c k : ℕ) → IsCounter header.layout k → volume_in new.pages (counter_count header.layout) c k
      ≡ given_back_by (λ v. v.page) lanes c k (volume_in old.pages (counter_count header.layout) c k)
  pub events : (c k : ℕ) → IsEvent k → volume_in new.events event_count c k
      ≡ given_back_by (λ v. v.event) lanes c k (volume_in old.events event_count c k)
  pub counters : (c j : ℕ) → j < length header.counters → volume_in new.counters (length header.counters) c j
      ≡ given_back_by (λ v. v.pcpu) lanes c j (volume_in old.counters (length header.counters) c j)
