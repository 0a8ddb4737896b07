-- Plain data of the page counters.
use Rattle.std.specs.Prelude.{◌≡◌, ℕ, ◌^◌, ◌<◌, ◌≤◌, pos, length, slice_index_or, unsigned_abs}
use Rattle.vms_history.specs.Common.{Shape, IsLayout, most_threshold}
use Rattle.vms_core.specs.declared.states.State.{State}
use Rattle.vms_core.specs.Bases.{IsOpening}
use Rattle.vms_core.specs.Cells.{HasShape, counters_of, places_of}

-- a state of some layout that may open a phase, whatever its marks cover
pub record IsPlainBase (s : State) : Type 0 where
  pub shape : Shape
  pub is_layout : IsLayout shape
  pub opening : IsOpening shape s

-- how often one threshold or one mark may be set in a phase
abbrev pub most_sets : ℕ
most_sets = 2000000

-- the lists are those of one layout and of so many counters and places, no differential or threshold is larger than a
-- threshold may be, and no mark larger than a mark may be
pub record IsPlain (s : State) (counters places : ℕ) : Type 0 where
  pub shape : Shape
  pub is_layout : IsLayout shape
  pub shaped : HasShape shape s
  pub one_for_each_counter : counters ≡ counters_of s
  pub one_for_each_place : places ≡ places_of s
  pub diffs : (n : ℕ) → unsigned_abs (slice_index_or s.diff n (pos 0)) ≤ most_threshold
  pub thresholds : (n : ℕ) → slice_index_or s.threshold n 0 ≤ most_threshold
  pub marks : (n : ℕ) → slice_index_or s.mark n 0 < 2 ^ 43
  pub diff_fits : length s.diff < 2 ^ 63
  pub threshold_fits : length s.threshold < 2 ^ 63
