-- What is told of the peak of a CPU in a zone.
use Rattle.std.specs.Prelude.{ℕ, max, Bool, if◌then◌else◌, Option, Some, None}
use Rattle.vms_world.specs.Common.{Absent, CpuState}

-- the peak of a CPU that is online or dead
abbrev pub peak_told : CpuState → ℕ → Option ℕ
peak_told Absent n = None
peak_told _ n = Some n

-- what a CPU may hide once those that are online get a threshold
abbrev pub raised_if : Bool → ℕ → ℕ → ℕ
raised_if is_online t n = if is_online then max t n else n

abbrev pub hidden_part : Bool → ℕ → Option ℕ → ℕ
hidden_part is_online t None = 0
hidden_part is_online t (Some n) = raised_if is_online t n
