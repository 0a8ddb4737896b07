-- What it takes to set thresholds and marks.
use Rattle.std.specs.Prelude.{◌≡◌, ◌≢◌, ℕ, ◌<◌, ◌≤◌, List, length, slice_index_or, if◌then◌else◌, unsigned_abs, All}
use Rattle.vms_world.specs.Common.{Header, CpuState, is_online, state_at, Shape, IsCounter, IsCpu, IsPlace, IsZone}
use Rattle.vms_world.specs.Common.{cell, IsValidSize, most_threshold, State, diff_at, threshold_at, count_online}
use Rattle.vms_core.specs.Cells.{HasShape}

-- the lists are those of the layout, and neither a differential nor a threshold is larger than a threshold may be
pub record HasPeaks (shape : Shape) (s : State) : Type 0 where
  pub shaped : HasShape shape s
  pub diffs : (c k : ℕ) → IsCpu shape c → IsCounter shape k → unsigned_abs (diff_at s c k) ≤ most_threshold
  pub thresholds : (c g : ℕ) → IsCpu shape c → IsPlace shape g → threshold_at s c g ≤ most_threshold

-- the online CPUs get a threshold of place g, one of so many places, and all other thresholds stay
pub record SetsPlace (states : List CpuState) (places g t : ℕ) (before after : List ℕ) : Type 0 where
  pub same_length : length after ≡ length before
  pub here : (c : ℕ) → c < length states → slice_index_or after (cell places c g) 0
      ≡ (if is_online (state_at states c) then t else slice_index_or before (cell places c g) 0)
  pub others : (c h : ℕ) → c < length states → h < places → h ≢ g →
      slice_index_or after (cell places c h) 0 ≡ slice_index_or before (cell places c h) 0

-- zones may get marks: sizes and thresholds are one for each zone, the sizes are valid, and so many CPUs are online
pub record MayMark (header : Header) (count : ℕ) (zones : List ℕ) (s : State) : Type 0 where
  pub peaks : HasPeaks header.layout s
  pub one_size_each : length header.sizes ≡ length header.layout.zones
  pub sizes : All IsValidSize header.sizes
  pub one_each : length zones ≡ length header.layout.zones
  pub most : (g : ℕ) → IsZone header.layout g → slice_index_or zones g 0 ≤ most_threshold
  pub online : count ≡ count_online s.cpu
  pub least_online : 1 ≤ count
  pub most_online : count ≤ 128
