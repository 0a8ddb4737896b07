-- What leaves room for the calls on plain tables.
use Rattle.std.specs.Prelude.{◌≡◌, ℕ, ◌^◌, ◌<◌, ◌≤◌, true, List, length}
use Rattle.vms_world.specs.Common.{Header, CpuId, HasOnline, is_present, online_from, state_at, IsCpu, cpu_at, sum_over}
use Rattle.vms_world.specs.Common.{IsEvent, word_at, Lane, Cpu, is_among}
use Rattle.vms_base.specs.declared.kinds.CpuState.TheVariants.{Dead, Online}
use Rattle.vms_pcpu_core.specs.States.{counters_of}
use Rattle.vms_plain_events.specs.Common.{HasWords}
use Rattle.vms_plain_lines.specs.PlainStates.{PlainStates}
use Rattle.vms_plain_pages.specs.Common.{IsSmallState}
use Rattle.vms_plain_pcpu.specs.Common.{HasLocals, HasRoomFor}

-- the lists are those of the header and their numbers are small, and the CPUs of these lanes are online, as they were
-- when the phase began
pub record LeavesRoomForLanes (header : Header) (lanes : List Lane) (now : PlainStates) : Type 0 where
  pub pages : IsSmallState header.layout (2 ^ 61) now.pages
  pub owners : (cpu : CpuId) → is_among (Cpu cpu) lanes ≡ true →
      IsCpu header.layout cpu.number × (cpu_at now.pages cpu.number ≡ Online)
  pub events : (n : ℕ) → n ≤ header.layout.cpus → HasWords now.events n
  pub words : (c k : ℕ) → IsCpu header.layout c → IsEvent k → word_at now.events c k < 2 ^ 62
  pub sums : (k : ℕ) → IsEvent k → sum_over now.events k (online_from 0 now.opening) < 2 ^ 62
  pub counters : (j : ℕ) → j < length header.counters → HasRoomFor now.counters j
  pub one_batch_each : counters_of now.counters ≡ length header.counters
  pub locals : (n : ℕ) → n ≤ header.layout.cpus → HasLocals now.counters n
  pub opening : length now.opening ≡ header.layout.cpus
  pub few : header.layout.cpus ≤ 128
  pub some_online : HasOnline header.layout now.pages.cpu
  pub was_online : HasOnline header.layout now.opening
  pub was_dead : (c : ℕ) → cpu_at now.pages c ≡ Dead → state_at now.opening c ≡ Dead
  pub present : (cpu : CpuId) → is_among (Cpu cpu) lanes ≡ true → is_present (state_at now.opening cpu.number) ≡ true
