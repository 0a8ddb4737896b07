-- What the calls that look at one counter answer, by the state.
use Rattle.std.specs.Prelude.{ℕ, ℤ, pos, ◌+ℤ◌, if◌then◌else◌}
use Rattle.vms_calls.specs.Common.{is_online, Shape, sum_below, State, cpu_at, diff_at, value_at, at_least_zero}

-- the differential of a CPU for counter k, where the CPU is online
abbrev pub online_diff : State → ℕ → ℕ → ℤ
online_diff s c k = if is_online (cpu_at s c) then diff_at s c k else pos 0

-- the global value of a counter and the differentials of the online CPUs together, 0 where that is negative
abbrev pub snapshot_of : Shape → State → ℕ → ℕ
snapshot_of shape s k = at_least_zero (value_at s k +ℤ sum_below (λ c. online_diff s c k) shape.cpus)
