-- The state that a complete history leaves.
use Rattle.std.specs.Prelude.{◌≡◌, ℕ, ◌+◌, ◌≤◌, ◌+ℤ◌, unsigned_abs}
use Rattle.vms_history.specs.Common.{Shape, IsCpu, IsCounter, IsItem, most_volume, count_below}
use Rattle.vms_core.specs.declared.states.State.{State}
use Rattle.vms_core.specs.Cells.{value_at, system_at}
use Rattle.vms_core.specs.Pages.{History}
use Rattle.vms_core.specs.Totals.{differentials, values_of_item, spent}

-- the volume of each CPU and counter after a history too
abbrev pub grown : (ℕ → ℕ → ℕ) → History → ℕ → ℕ → ℕ
grown volume h c k = volume c k + spent h c k

-- no volume is larger than a CPU may change a counter by
abbrev pub AreWithinVolumes : Shape → (ℕ → ℕ → ℕ) → Type 0
AreWithinVolumes shape volume = (c k : ℕ) → IsCpu shape c → IsCounter shape k → volume c k ≤ most_volume

-- a state of a run in which CPUs changed counters by so much: each global value with its differentials is at most 2^48
-- and the volumes, and each system-wide value is the sum of the global values of its counters
pub record IsWithinVolumes (shape : Shape) (volume : ℕ → ℕ → ℕ) (s : State) : Type 0 where
  pub totals : (k : ℕ) → IsCounter shape k → unsigned_abs (value_at s k +ℤ differentials shape s k)
      ≤ most_volume + count_below (λ c. volume c k) shape.cpus
  pub systems : (i : ℕ) → IsItem shape i → system_at s i ≡ values_of_item shape s i
