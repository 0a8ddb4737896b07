-- Where the numbers of a state stand, and what a write makes of the state.
use Rattle.std.specs.Prelude.{◌≡◌, ℕ, ◌*◌, ◌<◌, Bool, false, ℤ, pos, List, length, slice_index_or, slice_set, replicate}
use Rattle.vms_history.specs.Common.{cell, CpuState, state_at}
use Rattle.vms_pcpu_core.specs.declared.states.PcpuState.{PcpuState}
use Rattle.vms_pcpu_core.specs.declared.steps.PcpuFacts.{PcpuFacts}

-- the numbers of the counters, and for each counter whether its lock is held
pub record LockedState : Type 0 where
  pub numbers : PcpuState
  pub held : List Bool

-- how many counters a state has
abbrev pub counters_of : PcpuState → ℕ
counters_of s = length s.batch

-- what a local part of a counter may reach
abbrev pub batch_at : PcpuState → ℕ → ℕ
batch_at s j = slice_index_or s.batch j 0

-- the shared part of a counter
abbrev pub count_at : PcpuState → ℕ → ℤ
count_at s j = slice_index_or s.count j (pos 0)

-- the local part of a CPU for a counter
abbrev pub local_at : PcpuState → ℕ → ℕ → ℤ
local_at s c j = slice_index_or s.local (cell (counters_of s) c j) (pos 0)

-- whether a counter's lock is held
abbrev pub held_at : LockedState → ℕ → Bool
held_at s j = slice_index_or s.held j false

-- whether a CPU is online, dead or absent
abbrev pub cpu_at : PcpuFacts → ℕ → CpuState
cpu_at facts c = state_at facts.cpus c

-- the number of a counter
abbrev pub IsPcpu : PcpuFacts → ℕ → Type 0
IsPcpu facts j = j < counters_of facts.base

-- the state with one number changed
abbrev pub with_count : LockedState → ℕ → ℤ → LockedState
with_count s j v = record s { numbers = record s.numbers { count = slice_set s.numbers.count j v } }

abbrev pub with_local : LockedState → ℕ → ℕ → ℤ → LockedState
with_local s c j v =
    record s { numbers = record s.numbers { local = slice_set s.numbers.local (cell (counters_of s.numbers) c j) v } }

-- the state with a counter's lock held or free
abbrev pub with_held : LockedState → ℕ → Bool → LockedState
with_held s j b = record s { held = slice_set s.held j b }

-- the numbers that a history begins with, under free locks
abbrev pub unlocked : PcpuFacts → LockedState
unlocked facts = record { numbers = facts.base; held = replicate (counters_of facts.base) false }

-- the batches are those of the base, and the lists have the lengths of the layout
pub record HasShape (facts : PcpuFacts) (s : LockedState) : Type 0 where
  pub batch : s.numbers.batch ≡ facts.base.batch
  pub count : length s.numbers.count ≡ counters_of facts.base
  pub local : length s.numbers.local ≡ facts.layout.cpus * counters_of facts.base
  pub held : length s.held ≡ counters_of facts.base
