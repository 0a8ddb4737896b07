-- What the registers of the percpu counters keep of a history.
use Rattle.std.specs.Prelude.{◌≡◌, ℕ, ◌+◌, ◌≤◌, Bool, true, false, ℤ, pos, Option, Some, None, unsigned_abs}
use Rattle.vms_history.specs.Common.{CpuId, IsCpu, most_volume}
use Rattle.vms_cells.specs.Cells.{Cells, HasCells, at, with_cell}
use Rattle.vms_pcpu_core.specs.declared.steps.PcpuFacts.{PcpuFacts}
use Rattle.vms_pcpu_core.specs.Common.{HasShape, History, IsBase, IsPcpu, LockedState, carried, counters_of, holds_lock}
use Rattle.vms_pcpu_core.specs.Common.{spent, state_after}
use Rattle.vms_registers.specs.Slots.{held_events}
use Rattle.vms_pcpu_registers.specs.declared.registers.PcpuRegisters.{PcpuRegisters}

-- the numbers and the locks that stand
abbrev pub state_of : PcpuRegisters → LockedState
state_of r = record { numbers = r.numbers; held = r.held }

-- the registers with other numbers and locks
abbrev pub with_state : PcpuRegisters → LockedState → PcpuRegisters
with_state r s = record r { numbers = s.numbers; held = s.held }

-- what the table of locks has for a lock that is held, and for another
abbrev pub mark_of : Bool → ℤ
mark_of true = pos 1
mark_of false = pos 0

-- which amount the pass of a CPU may add to a shared part beyond what it carries: what is left of the CPU's volume; the
-- control pass adds none
abbrev pub MayAddBeyond : Option CpuId → Cells ℕ → ℕ → ℤ → Type 0
MayAddBeyond (Some c) spent j amount = at spent c.number j 0 + unsigned_abs amount ≤ most_volume
MayAddBeyond None spent j amount = amount ≡ pos 0

-- what CPUs have spent, and this CPU so much more on a counter
abbrev pub with_spent : Option CpuId → ℕ → ℕ → Cells ℕ → Cells ℕ
with_spent (Some c) j size spent = with_cell spent c.number j (at spent c.number j 0 + size)
with_spent None j size spent = spent

-- the numbers and locks that stand, what each CPU has spent, and what the pass in each slot carries and holds
pub record KeepsPercpu (facts : PcpuFacts) (h : History) (held : ℕ → ℕ) (r : PcpuRegisters) : Type 0 where
  pub state : state_of r ≡ state_after facts h
  pub spent_cells : HasCells facts.layout.cpus (counters_of facts.base) r.spent
  pub spends : (c j : ℕ) → IsCpu facts.layout c → IsPcpu facts j → at r.spent c j 0 ≡ spent h c j
  pub carried_cells : HasCells (facts.layout.cpus + 1) (counters_of facts.base) r.carried
  pub carries : (s j : ℕ) → s ≤ facts.layout.cpus → IsPcpu facts j →
      at r.carried s j (pos 0) ≡ carried j (held_events held h s)
  pub lock_cells : HasCells (facts.layout.cpus + 1) (counters_of facts.base) r.locks
  pub holds : (s j : ℕ) → s ≤ facts.layout.cpus → IsPcpu facts j →
      at r.locks s j (pos 0) ≡ mark_of (holds_lock j (held_events held h s))

-- the tables fit the facts
pub record IsKept (facts : PcpuFacts) (r : PcpuRegisters) : Type 0 where
  pub base : IsBase facts
  pub shaped : HasShape facts (state_of r)
  pub spent_cells : HasCells facts.layout.cpus (counters_of facts.base) r.spent
  pub carried_cells : HasCells (facts.layout.cpus + 1) (counters_of facts.base) r.carried
  pub lock_cells : HasCells (facts.layout.cpus + 1) (counters_of facts.base) r.locks
