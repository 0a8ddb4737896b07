-- Where thresholds and marks alone are set, and how often.
use Rattle.std.specs.Prelude.{◌≡◌, ℕ, suc, ◌+◌, ◌<◌, ◌≤◌, ◌⊎◌}
use Rattle.vms_calls.specs.Common.{Shape, IsCpu, IsPlace, IsZone, State, threshold_sets_at, mark_sets_at}

-- thresholds and marks may be others, and how often they were set; values, differentials, acknowledgements and the
-- CPUs' states stay
abbrev pub SetsOnly : State → State → Type 0
SetsOnly s next = next ≡ record s {
  threshold = next.threshold;
  threshold_sets = next.threshold_sets;
  mark = next.mark;
  mark_sets = next.mark_sets;
}

-- each threshold and each mark was set at most so often
pub record SetAtMost (shape : Shape) (most : ℕ) (s : State) : Type 0 where
  pub thresholds : (c g : ℕ) → IsCpu shape c → IsPlace shape g → threshold_sets_at s c g ≤ most
  pub marks : (g : ℕ) → IsZone shape g → mark_sets_at s g ≤ most

-- those of the places from one on and below another were set at most once more, and the others no more
pub record SetsOnce (shape : Shape) (from to : ℕ) (s next : State) : Type 0 where
  pub thresholds : (c g : ℕ) → IsCpu shape c → IsPlace shape g → from ≤ g → g < to →
      threshold_sets_at next c g ≤ suc (threshold_sets_at s c g)
  pub other_thresholds : (c g : ℕ) → IsCpu shape c → IsPlace shape g → (g < from) ⊎ (to ≤ g) →
      threshold_sets_at next c g ≡ threshold_sets_at s c g
  pub marks : (g : ℕ) → from ≤ g → g < to → mark_sets_at next g ≤ suc (mark_sets_at s g)
  pub other_marks : (g : ℕ) → (g < from) ⊎ (to ≤ g) → mark_sets_at next g ≡ mark_sets_at s g

-- a call sets each threshold and each mark at most so often
abbrev pub SetsEachAtMost : Shape → ℕ → State → State → Type 0
SetsEachAtMost shape times s next = (most : ℕ) → SetAtMost shape most s → SetAtMost shape (times + most) next
