-- What a fold of a CPU makes of a state.
use Rattle.std.specs.Prelude.{◌≡◌, ℕ, nat_eq, ◌&&◌, Bool, ◌+ℤ◌, pos, Some, if◌then◌else◌}
use Rattle.vms_calls.specs.Common.{Shape, IsCounter, IsCpu, IsItem, IsZone, counter_count, item_of, sum_below, State}
use Rattle.vms_calls.specs.Common.{HasShape, acknowledged_at, diff_at, system_at, threshold_sets_at, value_at}

-- the differentials of CPU c are added to the global values and to the system-wide ones, and are 0; where its owner
-- folds, the CPU acknowledges the thresholds of all zones as they were set last; all else stays
pub record FoldsCpu (shape : Shape) (is_own : Bool) (c : ℕ) (s next : State) : Type 0 where
  pub rest : next ≡ record s {
    place = next.place;
    system = next.system;
    diff = next.diff;
    acknowledged = next.acknowledged;
  }
  pub shaped : HasShape shape next
  pub values : (k : ℕ) → IsCounter shape k → value_at next k ≡ value_at s k +ℤ diff_at s c k
  pub systems : (i : ℕ) → IsItem shape i → system_at next i
      ≡ system_at s i +ℤ sum_below (λ k. if nat_eq (item_of shape k) i then diff_at s c k else pos 0)
      (counter_count shape)
  pub diffs : (d k : ℕ) → IsCpu shape d → IsCounter shape k
      → diff_at next d k ≡ (if nat_eq c d then pos 0 else diff_at s d k)
  pub acknowledged : (d g : ℕ) → IsCpu shape d → IsZone shape g → acknowledged_at next d g
      ≡ (if is_own && nat_eq c d then Some (threshold_sets_at s c g) else acknowledged_at s d g)
