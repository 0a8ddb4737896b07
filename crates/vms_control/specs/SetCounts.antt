-- How often thresholds and marks were set since an earlier history, and whether they may be set once more.
use Rattle.std.specs.Prelude.{ℕ, suc, ◌+◌, ◌<◌, ◌≤◌, ◌&&◌, nat_le, nat_lt, if◌then◌else◌}
use Rattle.vms_calls.specs.Common.{IsCpu, IsPlace, IsZone, Facts, mark_sets_at, threshold_sets_at, History, state_after}
use Rattle.vms_calls.specs.Common.{most_sets}
use Rattle.vms_words.specs.Common.{largest_sets}

-- once for each place from one on and below another, never for the others
abbrev pub once : (from to g : ℕ) → ℕ
once from to g = if nat_le from g && nat_lt g to then 1 else 0

abbrev pub never : ℕ → ℕ
never g = 0

-- thresholds and marks were set at most so often since, by place
pub record SetsAtMost (facts : Facts) (thresholds_set marks_set : ℕ → ℕ) (later earlier : History) : Type 0 where
  pub thresholds : (c g : ℕ) → IsCpu facts.layout c → IsPlace facts.layout g →
      threshold_sets_at (state_after facts later) c g
      ≤ thresholds_set g + threshold_sets_at (state_after facts earlier) c g
  pub marks : (g : ℕ) → IsZone facts.layout g →
      mark_sets_at (state_after facts later) g ≤ marks_set g + mark_sets_at (state_after facts earlier) g

-- the thresholds of a place, and the mark of a zone, may be set once more
pub record MayStillSet (facts : Facts) (h : History) (g : ℕ) : Type 0 where
  pub thresholds : (c : ℕ) → IsCpu facts.layout c → threshold_sets_at (state_after facts h) c g < most_sets
  pub mark : IsZone facts.layout g → mark_sets_at (state_after facts h) g < most_sets

-- no threshold and no mark was set as often as may be
abbrev pub HasSetsLeft : Facts → History → Type 0
HasSetsLeft facts h = largest_sets facts.layout (state_after facts h) < most_sets

-- the largest number of sets of any one threshold or mark grew by at most 1 since
abbrev pub SetsOnceMore : Facts → History → History → Type 0
SetsOnceMore facts later earlier =
    largest_sets facts.layout (state_after facts later) ≤ suc (largest_sets facts.layout (state_after facts earlier))
