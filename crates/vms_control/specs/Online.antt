-- The CPUs that the control pass sets thresholds on.
use Rattle.std.specs.Prelude.{ℕ, ◌<◌, ◌≤◌, List, length, slice_index_or}
use Rattle.vms_calls.specs.Common.{CpuId, AreOnline, Facts}

-- what is read past the end of a list of CPUs
abbrev pub no_cpu : CpuId
no_cpu = record { number = 0 }

-- the number of the CPU at a place of a list
abbrev pub cpu_number_in : List CpuId → ℕ → ℕ
cpu_number_in online n = (slice_index_or online n no_cpu).number

-- some CPUs that are online from the start of the phase to its end, in ascending order
pub record FoundOnline (facts : Facts) (online : List CpuId) : Type 0 where
  pub some : 1 ≤ length online
  pub few : length online ≤ facts.layout.cpus
  pub most : length online ≤ 128
  pub each : AreOnline facts.layout facts.base online
  pub ascending : (i j : ℕ) → i < j → j < length online → cpu_number_in online i < cpu_number_in online j
