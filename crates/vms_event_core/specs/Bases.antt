-- The facts that a history may begin with.
use Rattle.std.specs.Prelude.{◌≡◌, ◌≢◌, ℕ, ◌^◌, ◌<◌, pos, ◌≤ℤ◌, length}
use Rattle.vms_history.specs.Common.{CpuState, Online, Absent, state_at, HasOnline, IsLayout, IsCpu}
use Rattle.vms_event_core.specs.declared.steps.EventFacts.{EventFacts}
use Rattle.vms_event_core.specs.Words.{IsEvent, HasShape, word_at, sum_of_words}

-- whether a CPU is online, dead or absent
abbrev pub cpu_at : EventFacts → ℕ → CpuState
cpu_at facts c = state_at facts.cpus c

-- the lowest-numbered CPU that is online
pub record IsLowestOnline (facts : EventFacts) (c : ℕ) : Type 0 where
  pub online : cpu_at facts c ≡ Online
  pub lowest : (b : ℕ) → b < c → cpu_at facts b ≢ Online

-- the words that all CPUs may have of one event in the base, in sum
abbrev pub most_in_base : ℕ
most_in_base = 2 ^ 60

-- the words and the CPU states fit the layout, some CPU is online, an absent CPU has counted nothing, and the words of
-- an event are not too large in sum
pub record IsBase (facts : EventFacts) : Type 0 where
  pub layout : IsLayout facts.layout
  pub one_state_each : length facts.cpus ≡ facts.layout.cpus
  pub shaped : HasShape facts.layout facts.base
  pub some_online : HasOnline facts.layout facts.cpus
  pub absent : (c k : ℕ) → IsCpu facts.layout c → cpu_at facts c ≡ Absent → IsEvent k → word_at facts.base c k ≡ 0
  pub sums : (k : ℕ) → IsEvent k → sum_of_words facts.layout facts.base k ≤ℤ pos most_in_base
