-- Where the numbers of a state stand, and what a write makes of the state.
use Rattle.std.specs.Prelude.{◌≡◌, ℕ, suc, zero, ◌+◌, ◌*◌, ◌/◌, ◌%◌, ◌<◌, ℤ, pos, List, length, slice_index_or}
use Rattle.std.specs.Prelude.{slice_set, replicate, Option, Some, None}
use Rattle.vms_history.specs.Common.{Shape, cell, place_count, counter_count, item_count, CpuState, state_at}
use Rattle.vms_core.specs.declared.states.State.{State}

-- how many counters, places and zones a state has
abbrev pub counters_of : State → ℕ
counters_of s = length s.place

abbrev pub places_of : State → ℕ
places_of s = length s.threshold / length s.cpu

abbrev pub zones_of : State → ℕ
zones_of s = length s.mark

-- the global value of a counter
abbrev pub value_at : State → ℕ → ℤ
value_at s k = slice_index_or s.place k (pos 0)

-- the system-wide value of an item
abbrev pub system_at : State → ℕ → ℤ
system_at s i = slice_index_or s.system i (pos 0)

-- the differential of a CPU for a counter
abbrev pub diff_at : State → ℕ → ℕ → ℤ
diff_at s c k = slice_index_or s.diff (cell (counters_of s) c k) (pos 0)

-- the threshold of a CPU in a place, and how often it was set
abbrev pub threshold_at : State → ℕ → ℕ → ℕ
threshold_at s c g = slice_index_or s.threshold (cell (places_of s) c g) 0

abbrev pub threshold_sets_at : State → ℕ → ℕ → ℕ
threshold_sets_at s c g = slice_index_or s.threshold_sets (cell (places_of s) c g) 0

-- the drift mark of a zone, and how often it was set
abbrev pub mark_at : State → ℕ → ℕ
mark_at s g = slice_index_or s.mark g 0

abbrev pub mark_sets_at : State → ℕ → ℕ
mark_sets_at s g = slice_index_or s.mark_sets g 0

-- whether a CPU is online, dead or absent
abbrev pub cpu_at : State → ℕ → CpuState
cpu_at s c = state_at s.cpu c

-- the number that a CPU acknowledged last of a zone's threshold
abbrev pub acknowledged_at : State → ℕ → ℕ → Option ℕ
acknowledged_at s c g = slice_index_or s.acknowledged (cell (zones_of s) c g) None

-- the list has eight entries, and these are the differentials of a CPU in group j
pub record TellsGroup (s : State) (c j : ℕ) (values : List ℤ) : Type 0 where
  pub eight : length values ≡ 8
  pub each : (i : ℕ) → i < 8 → slice_index_or values i (pos 0) ≡ diff_at s c (8 * j + i)

-- the entry of counter k in a list of its group
abbrev pub entry : List ℤ → ℕ → ℤ
entry values k = slice_index_or values (k % 8) (pos 0)

-- the list of a group in which all is 0
abbrev pub eight_zeros : List ℤ
eight_zeros = replicate 8 (pos 0)

-- n zeros from a place of a list on
unfoldable pub zeroed : List ℤ → ℕ → ℕ → List ℤ
zeroed xs start zero = xs
zeroed xs start (suc n) = slice_set (zeroed xs start n) (start + n) (pos 0)

-- the state with one number changed
abbrev pub with_value : State → ℕ → ℤ → State
with_value s k v = record s { place = slice_set s.place k v }

abbrev pub with_system : State → ℕ → ℤ → State
with_system s i v = record s { system = slice_set s.system i v }

abbrev pub with_diff : State → ℕ → ℕ → ℤ → State
with_diff s c k d = record s { diff = slice_set s.diff (cell (counters_of s) c k) d }

-- the state in which all differentials of a CPU in group j are 0
abbrev pub with_group_zeroed : State → ℕ → ℕ → State
with_group_zeroed s c j = record s { diff = zeroed s.diff (cell (counters_of s) c (8 * j)) 8 }

-- the state with a threshold or a mark set, which counts
abbrev pub with_threshold : State → ℕ → ℕ → ℕ → State
with_threshold s c g t = record s {
  threshold = slice_set s.threshold (cell (places_of s) c g) t;
  threshold_sets = slice_set s.threshold_sets (cell (places_of s) c g) (threshold_sets_at s c g + 1);
}

abbrev pub with_mark : State → ℕ → ℕ → State
with_mark s g m = record s {
  mark = slice_set s.mark g m;
  mark_sets = slice_set s.mark_sets g (mark_sets_at s g + 1);
}

abbrev pub with_cpu : State → ℕ → CpuState → State
with_cpu s c x = record s { cpu = slice_set s.cpu c x }

abbrev pub with_acknowledged : State → ℕ → ℕ → ℕ → State
with_acknowledged s c g number =
    record s { acknowledged = slice_set s.acknowledged (cell (zones_of s) c g) (Some number) }

-- the lists of the state have the lengths of this layout
pub record HasShape (shape : Shape) (s : State) : Type 0 where
  pub place : length s.place ≡ counter_count shape
  pub system : length s.system ≡ item_count shape
  pub diff : length s.diff ≡ shape.cpus * counter_count shape
  pub threshold : length s.threshold ≡ shape.cpus * place_count shape
  pub mark : length s.mark ≡ length shape.zones
  pub cpu : length s.cpu ≡ shape.cpus
  pub acknowledged : length s.acknowledged ≡ shape.cpus * length shape.zones
  pub threshold_sets : length s.threshold_sets ≡ shape.cpus * place_count shape
  pub mark_sets : length s.mark_sets ≡ length shape.zones
