-- Tables in which the pass in a slot keeps what it knows of each thing by its own events.
use Rattle.std.specs.Prelude.{◌≡◌, ◌≢◌, ℕ, ◌<◌, ◌≤◌, List, Option}
use Rattle.vms_history.specs.Common.{CpuId, begun_in}
use Rattle.vms_history.specs.declared.events.Event.{Event}
use Rattle.vms_cells.specs.declared.stamps.Stamped.{Stamped}
use Rattle.vms_cells.specs.Cells.{Cells, HasCells, at}
use Rattle.vms_cells.specs.Stamps.{written_by}
use Rattle.vms_core.specs.declared.steps.Step.{Step}
use Rattle.vms_core.specs.Common.{History, role}
use Rattle.vms_registers.specs.Slots.{held_events}

-- the cells of a slot tell what the owner of that CPU knows; each was written by a pass that has begun
pub record KeepsKnown {X : Type 0} (cpus width : ℕ) (blank : Stamped X)
    (known : CpuId → ℕ → List (Event Step) → Option X) (h : History) (held : ℕ → ℕ) (cells : Cells (Stamped X))
    : Type 0 where
  pub whole : HasCells cpus width cells
  pub writers : (s n : ℕ) → s < cpus → n < width → (at cells s n blank).writer ≤ begun_in role h
  pub tells : (s n : ℕ) → s < cpus → n < width → held s ≢ 0 →
      written_by (held s) (at cells s n blank) ≡ known (record { number = s }) n (held_events held h s)
