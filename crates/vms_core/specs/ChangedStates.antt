-- What a change of a counter that meets no other caller makes of a state.
use Rattle.std.specs.Prelude.{ℕ, ℤ, ◌+ℤ◌}
use Rattle.vms_history.specs.Common.{Mode, Shape, place_of, item_of}
use Rattle.vms_core.specs.declared.states.State.{State}
use Rattle.vms_core.specs.Cells.{value_at, system_at, diff_at, threshold_at, with_value, with_system, with_diff}
use Rattle.vms_core.specs.Changes.{differential_after, carried_by}

-- the state with an amount added to the global value of a counter and to the system-wide value of its item
abbrev pub with_carried : Shape → ℕ → ℤ → State → State
with_carried shape k amount s =
    with_system (with_value s k (value_at s k +ℤ amount)) (item_of shape k) (system_at s (item_of shape k) +ℤ amount)

-- the state after a change of a differential that was found, under a threshold
unfoldable pub with_change_of : Shape → ℕ → ℕ → ℕ → ℤ → ℤ → Mode → State → State
with_change_of shape c k t found delta how s =
    with_carried shape k (carried_by how t found delta) (with_diff s c k (differential_after how t found delta))

-- the state after a change by CPU c of counter k
abbrev pub with_change : Shape → ℕ → ℕ → ℤ → Mode → State → State
with_change shape c k delta how s =
    with_change_of shape c k (threshold_at s c (place_of shape k)) (diff_at s c k) delta how s
