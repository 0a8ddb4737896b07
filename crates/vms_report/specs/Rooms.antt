-- Which numbers of percpu counters add up without an overflow.
use Rattle.std.specs.Prelude.{◌≡◌, ℕ, ◌*◌, ◌<◌, ◌≤◌, length, unsigned_abs}
use Rattle.vms_world.specs.Common.{Shape, IsCpu, PcpuState, most_batch, most_count, count_at, local_at}
use Rattle.vms_pcpu_core.specs.States.{counters_of}

-- counter j stands in the lists, and its numbers are as small as in every base
pub record IsSmallCounter (shape : Shape) (s : PcpuState) (j : ℕ) : Type 0 where
  pub counter : j < counters_of s
  pub one_count_each : length s.count ≡ counters_of s
  pub one_local_each : length s.local ≡ shape.cpus * counters_of s
  pub count : unsigned_abs (count_at s j) ≤ most_count
  pub locals : (c : ℕ) → IsCpu shape c → unsigned_abs (local_at s c j) ≤ most_batch
