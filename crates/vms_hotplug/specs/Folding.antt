-- A fold of one CPU.
use Rattle.std.specs.Prelude.{◌≡◌, ℕ, ◌≤◌, nat_eq, ◌+ℤ◌, pos, unsigned_abs, if◌then◌else◌}
use Rattle.vms_world.specs.Common.{Shape, IsCounter, IsCpu, IsItem, counter_count, item_of, most_threshold, sum_below}
use Rattle.vms_world.specs.Common.{State, diff_at, system_at, value_at}
use Rattle.vms_core.specs.Cells.{HasShape}

-- the lists are those of the layout, differentials are small, and no global or system-wide value is larger than `most`
pub record IsSmallState (shape : Shape) (most : ℕ) (s : State) : Type 0 where
  pub shaped : HasShape shape s
  pub diffs : (c k : ℕ) → IsCpu shape c → IsCounter shape k → unsigned_abs (diff_at s c k) ≤ most_threshold
  pub values : (k : ℕ) → IsCounter shape k → unsigned_abs (value_at s k) ≤ most
  pub systems : (i : ℕ) → IsItem shape i → unsigned_abs (system_at s i) ≤ most

-- the differentials of CPU c are added to the global values and to the system-wide ones, and are 0; all else stays
pub record FlushesCpu (shape : Shape) (c : ℕ) (s next : State) : Type 0 where
  pub rest : next ≡ record s { place = next.place; system = next.system; diff = next.diff }
  pub shaped : HasShape shape next
  pub values : (k : ℕ) → IsCounter shape k → value_at next k ≡ value_at s k +ℤ diff_at s c k
  pub systems : (i : ℕ) → IsItem shape i → system_at next i
      ≡ system_at s i +ℤ sum_below (λ k. if nat_eq (item_of shape k) i then diff_at s c k else pos 0)
      (counter_count shape)
  pub diffs : (d k : ℕ) → IsCpu shape d → IsCounter shape k
      → diff_at next d k ≡ (if nat_eq c d then pos 0 else diff_at s d k)
