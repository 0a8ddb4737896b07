-- The facts that a history may begin with.
use Rattle.std.specs.Prelude.{◌≡◌, ℕ, ◌*◌, ◌^◌, ◌≤◌, pos, length, unsigned_abs}
use Rattle.vms_history.specs.Common.{Absent, HasOnline, IsLayout, IsCpu}
use Rattle.vms_pcpu_core.specs.declared.steps.PcpuFacts.{PcpuFacts}
use Rattle.vms_pcpu_core.specs.States.{counters_of, batch_at, count_at, local_at, cpu_at, IsPcpu}

-- a batch is at most this
abbrev pub most_batch : ℕ
most_batch = 2 ^ 16

-- the shared part of a base is at most this in absolute size
abbrev pub most_count : ℕ
most_count = 2 ^ 60

-- the lists fit the layout
pub record HasLengths (facts : PcpuFacts) : Type 0 where
  pub one_state_each : length facts.cpus ≡ facts.layout.cpus
  pub one_count_each : length facts.base.count ≡ counters_of facts.base
  pub one_local_each : length facts.base.local ≡ facts.layout.cpus * counters_of facts.base

-- the batch and the shared part of a counter are in their ranges
pub record IsCounterBase (facts : PcpuFacts) (j : ℕ) : Type 0 where
  pub batch_least : 1 ≤ batch_at facts.base j
  pub batch_most : batch_at facts.base j ≤ most_batch
  pub count : unsigned_abs (count_at facts.base j) ≤ most_count

-- a local part is within its batch, and an absent CPU has none
pub record IsLocalBase (facts : PcpuFacts) (c j : ℕ) : Type 0 where
  pub within : unsigned_abs (local_at facts.base c j) ≤ batch_at facts.base j
  pub absent : cpu_at facts c ≡ Absent → local_at facts.base c j ≡ pos 0

-- what a history may begin with: some CPU runs, and all numbers are in their ranges
pub record IsBase (facts : PcpuFacts) : Type 0 where
  pub layout : IsLayout facts.layout
  pub lengths : HasLengths facts
  pub some_online : HasOnline facts.layout facts.cpus
  pub counters : (j : ℕ) → IsPcpu facts j → IsCounterBase facts j
  pub locals : (c : ℕ) → IsCpu facts.layout c → (j : ℕ) → IsPcpu facts j → IsLocalBase facts c j
