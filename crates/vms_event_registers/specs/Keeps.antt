-- What the registers of the event counters keep of a history.
use Rattle.std.specs.Prelude.{◌≡◌, ℕ, ◌+◌, ◌≤◌, pos}
use Rattle.vms_history.specs.Common.{IsCpu}
use Rattle.vms_cells.specs.Cells.{HasCells, at}
use Rattle.vms_event_core.specs.declared.steps.EventFacts.{EventFacts}
use Rattle.vms_event_core.specs.Common.{HasShape, History, IsBase, IsEvent, IsLowestOnline, carried, event_count, spent}
use Rattle.vms_event_core.specs.Common.{state_after}
use Rattle.vms_registers.specs.Slots.{held_events}
use Rattle.vms_event_registers.specs.declared.registers.EventRegisters.{EventRegisters}

-- the words that stand, what each CPU has counted, and what the pass in each slot carries
pub record KeepsEvents (facts : EventFacts) (h : History) (held : ℕ → ℕ) (r : EventRegisters) : Type 0 where
  pub state : r.state ≡ state_after facts h
  pub lowest : IsLowestOnline facts r.lowest.number
  pub lowest_in : IsCpu facts.layout r.lowest.number
  pub spent_cells : HasCells facts.layout.cpus event_count r.spent
  pub counts : (c k : ℕ) → IsCpu facts.layout c → IsEvent k → at r.spent c k 0 ≡ spent h c k
  pub carried_cells : HasCells (facts.layout.cpus + 1) event_count r.carried
  pub carries : (s k : ℕ) → s ≤ facts.layout.cpus → IsEvent k →
      at r.carried s k (pos 0) ≡ carried k (held_events held h s)

-- the tables fit the facts
pub record IsKept (facts : EventFacts) (r : EventRegisters) : Type 0 where
  pub base : IsBase facts
  pub shaped : HasShape facts.layout r.state
  pub spent_cells : HasCells facts.layout.cpus event_count r.spent
  pub carried_cells : HasCells (facts.layout.cpus + 1) event_count r.carried
