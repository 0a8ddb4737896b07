-- What a call makes of a state where no other caller acts meanwhile.
use Rattle.std.specs.Prelude.{ℕ, ◌≤◌, List, Option, unsigned_abs}
use Rattle.vms_calls.specs.Common.{CpuId, Shape, IsCpu, IsCounter, IsItem, most_threshold, LeadsOn, State, Step}
use Rattle.vms_calls.specs.Common.{HasShape, value_at, system_at, diff_at}
use Rattle.vms_plain_pages.specs.StateSteps.{pages_by_state}

-- a caller that owns a CPU or none makes the steps of a call in a row, and they lead from one state to another
abbrev pub CallLeadsAlone : Option CpuId → (List Step → Type 0) → State → State → Type 0
CallLeadsAlone who IsCall s next = (steps : List Step) × IsCall steps × LeadsOn pages_by_state who steps s next

-- the lists are those of the layout, differentials are small, and no global or system-wide value is larger than `most`
pub record IsSmallState (shape : Shape) (most : ℕ) (s : State) : Type 0 where
  pub shaped : HasShape shape s
  pub values : (k : ℕ) → IsCounter shape k → unsigned_abs (value_at s k) ≤ most
  pub systems : (i : ℕ) → IsItem shape i → unsigned_abs (system_at s i) ≤ most
  pub diffs : (c k : ℕ) → IsCpu shape c → IsCounter shape k → unsigned_abs (diff_at s c k) ≤ most_threshold
