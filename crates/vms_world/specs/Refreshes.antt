-- What a refresh makes of thresholds and marks (`refresh_zone_stat_thresholds` of mm/vmstat.c).
use Rattle.std.specs.Prelude.{◌≡◌, ℕ, ◌-◌, ◌^◌, ◌≤◌, nat_lt, if◌then◌else◌, pos, unsigned_abs, List, length, count_by}
use Rattle.std.specs.Prelude.{None, slice_index_or}
use Rattle.vms_calls.specs.Common.{Header, CpuState, ZoneSize, Absent, HasOnline, is_online, linux_mark_of}
use Rattle.vms_calls.specs.Common.{cover_mark_of, Shape, IsCounter, IsCpu, IsItem, IsPlace, IsZone, place_count}
use Rattle.vms_calls.specs.Common.{size_at, most_threshold, count_below, State, HasShape, acknowledged_at, cpu_at}
use Rattle.vms_calls.specs.Common.{diff_at, mark_sets_at, system_at, threshold_at, threshold_sets_at, value_at}
use Rattle.vms_calls.specs.Common.{if_present, opening_peak, largest_on}
use Rattle.vms_world.specs.Listed.{listed, listed_by_cpu}

-- how many CPUs are online
abbrev pub count_online : List CpuState → ℕ
count_online states = count_by is_online states

-- what a rule answers for each zone, in order, where so many CPUs are online
pub record AreAnswers (header : Header) (answers : ZoneSize → ℕ → ℕ → Type 0) (online : ℕ) (zones : List ℕ) : Type 0
  where
    pub one_each : length zones ≡ length header.layout.zones
    pub each : (g : ℕ) → IsZone header.layout g → answers (size_at header.sizes g) online (slice_index_or zones g 0)

-- the threshold of a place, given those of the zones: a node has the largest of its zones
abbrev pub place_threshold : Shape → List ℕ → ℕ → ℕ
place_threshold shape zones g =
    if nat_lt g (length shape.zones)
    then slice_index_or zones g 0
    else largest_on shape zones (slice_index_or shape.nodes (g - length shape.zones) 0)

-- the online CPUs get these thresholds of the zones, and of the nodes by them; those of other CPUs stay
abbrev pub with_thresholds : Shape → List ℕ → State → State
with_thresholds shape zones s = record s {
  threshold = listed_by_cpu
      (λ c g. if is_online (cpu_at s c) then place_threshold shape zones g else threshold_at s c g)
      shape.cpus (place_count shape);
}

-- what the CPUs that are online or dead may hide of zone g together as a phase begins
abbrev pub hidden_in : Shape → State → ℕ → ℕ
hidden_in shape s g = count_below (λ c. if_present (cpu_at s c) (opening_peak shape s c g)) shape.cpus

-- the mark of zone g: Linux's mark of the zone's threshold, raised where that is needed to cover what CPUs may hide
abbrev pub zone_mark : Header → List ℕ → State → ℕ → ℕ
zone_mark header zones s g = cover_mark_of (size_at header.sizes g)
    (linux_mark_of (size_at header.sizes g) (count_online s.cpu) (slice_index_or zones g 0))
    (hidden_in header.layout s g)

abbrev pub with_marks : Header → List ℕ → State → State
with_marks header zones s = record s { mark = listed (zone_mark header zones s) (length header.layout.zones) }

-- the page counters with these thresholds of the zones on the online CPUs, and marks that cover them
abbrev pub refreshed : Header → List ℕ → State → State
refreshed header zones s = with_marks header zones (with_thresholds header.layout zones s)

-- page counters that a refresh may be made on: with all that a history asks of its base, but for marks and for the
-- thresholds of online CPUs
pub record MayRefresh (shape : Shape) (s : State) : Type 0 where
  pub shaped : HasShape shape s
  pub some_online : HasOnline shape s.cpu
  pub values : (k : ℕ) → IsCounter shape k → unsigned_abs (value_at s k) ≤ 2 ^ 60
  pub systems : (i : ℕ) → IsItem shape i → unsigned_abs (system_at s i) ≤ 2 ^ 60
  pub diffs : (c k : ℕ) → IsCpu shape c → IsCounter shape k → unsigned_abs (diff_at s c k) ≤ most_threshold
  pub absent : (c k : ℕ) → IsCpu shape c → cpu_at s c ≡ Absent → IsCounter shape k → diff_at s c k ≡ pos 0
  pub thresholds : (c g : ℕ) → IsCpu shape c → IsPlace shape g → threshold_at s c g ≤ most_threshold
  pub unacknowledged : (c g : ℕ) → IsCpu shape c → IsZone shape g → acknowledged_at s c g ≡ None
  pub unset_thresholds : (c g : ℕ) → IsCpu shape c → IsPlace shape g → threshold_sets_at s c g ≡ 0
  pub unset_marks : (g : ℕ) → IsZone shape g → mark_sets_at s g ≡ 0
