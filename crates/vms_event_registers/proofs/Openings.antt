-- The registers of a history without events.
use Rattle.std.proofs.Common.{List, ◌≡◌, ℕ, ◌+◌, [], pos, nat_eq}
use Rattle.vms_history.specs.Common.{IsCpu}
use Rattle.vms_history.specs.declared.events.Event.{Event}
use Rattle.vms_event_core.specs.declared.steps.EventStep.{EventStep}
use Rattle.vms_history.proofs.Common.{if-either}
use Rattle.vms_cells.specs.Cells.{filled}
use Rattle.vms_cells.proofs.WrittenCells.{HasCells-filled, at-filled}
use Rattle.vms_event_core.specs.declared.steps.EventFacts.{EventFacts}
use Rattle.vms_event_core.specs.Common.{IsLowestOnline, event_count}
use Rattle.vms_event_registers.specs.declared.registers.EventRegisters.{EventRegisters}
use Rattle.vms_event_registers.specs.Keeps.{KeepsEvents}

pub KeepsEvents-none : (facts : EventFacts) (held : ℕ → ℕ) (r : EventRegisters) → r.state ≡ facts.base
    → IsLowestOnline facts r.lowest.number → IsCpu facts.layout r.lowest.number
    → r.spent ≡ filled facts.layout.cpus event_count 0
    → r.carried ≡ filled (facts.layout.cpus + 1) event_count (pos 0)
    → KeepsEvents facts [] held r
KeepsEvents-none facts held r state lowest lowest_in spent carries = record {
  state = state;
  lowest = lowest;
  lowest_in = lowest_in;
  spent_cells = rw spent (HasCells-filled facts.layout.cpus event_count 0);
  counts = λ c k c_in k_in. rw spent (at-filled facts.layout.cpus event_count 0 c k);
  carried_cells = rw carries (HasCells-filled (facts.layout.cpus + 1) event_count (pos 0));
  carries = λ s k s_in k_in.
      rw (carries, if-either {X = List (Event EventStep)} (nat_eq (held s) 0) [])
      (at-filled (facts.layout.cpus + 1) event_count (pos 0) s k);
}
