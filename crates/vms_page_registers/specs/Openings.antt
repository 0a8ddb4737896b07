-- One CPU of a state between two phases.
use Rattle.std.specs.Prelude.{◌≡◌, ℕ, ◌≤◌, pos, None, unsigned_abs}
use Rattle.vms_history.specs.Common.{Online, Absent, Shape, IsPlace, IsZone, IsCounter, most_threshold}
use Rattle.vms_core.specs.declared.states.State.{State}
use Rattle.vms_core.specs.Common.{diff_at, threshold_at, threshold_sets_at, cpu_at, acknowledged_at}

-- the numbers of CPU c are in their ranges, it hides nothing where it is absent, and nothing of it was set or
-- acknowledged yet
pub record OpensCpu (shape : Shape) (s : State) (c : ℕ) : Type 0 where
  pub diffs : (k : ℕ) → IsCounter shape k → unsigned_abs (diff_at s c k) ≤ most_threshold
  pub absent : cpu_at s c ≡ Absent → (k : ℕ) → IsCounter shape k → diff_at s c k ≡ pos 0
  pub thresholds : (g : ℕ) → IsPlace shape g → threshold_at s c g ≤ most_threshold
  pub online : cpu_at s c ≡ Online → (g : ℕ) → IsPlace shape g → 1 ≤ threshold_at s c g
  pub unacknowledged : (g : ℕ) → IsZone shape g → acknowledged_at s c g ≡ None
  pub unset_thresholds : (g : ℕ) → IsPlace shape g → threshold_sets_at s c g ≡ 0
