-- What is kept of a history of the passes in their slots.
use Rattle.std.specs.Prelude.{◌≡◌, ℕ, ◌≤◌, ℤ, pos, List}
use Rattle.vms_history.specs.Common.{IsCounter, IsItem, IsLayout, Shape, group_count, place_count}
use Rattle.vms_cells.specs.declared.stamps.Stamped.{Stamped}
use Rattle.vms_cells.specs.Cells.{HasCells, at}
use Rattle.vms_core.specs.declared.steps.Facts.{Facts}
use Rattle.vms_core.specs.Common.{History, carried, carried_of_item, eight_zeros, found}
use Rattle.vms_registers.specs.Slots.{held_events}
use Rattle.vms_page_passes.specs.declared.amounts.Amounts.{Amounts}
use Rattle.vms_page_passes.specs.declared.passes.PagePasses.{PagePasses}
use Rattle.vms_page_passes.specs.Amounts.{HasAmounts}
use Rattle.vms_page_passes.specs.Known.{KeepsKnown}
use Rattle.vms_page_passes.specs.Notes.{noted, unloaded}

-- a list that no pass has written
abbrev pub unfound : Stamped (List ℤ)
unfound = record { writer = 0; value = eight_zeros }

-- what the pass in each slot carries for each counter and each item
pub record KeepsAmounts (facts : Facts) (h : History) (held : ℕ → ℕ) (amounts : Amounts) : Type 0 where
  pub shaped : HasAmounts facts.layout amounts
  pub by_counter : (s k : ℕ) → s ≤ facts.layout.cpus → IsCounter facts.layout k →
      at amounts.by_counter s k (pos 0) ≡ carried k (held_events held h s)
  pub by_item : (s i : ℕ) → s ≤ facts.layout.cpus → IsItem facts.layout i →
      at amounts.by_item s i (pos 0) ≡ carried_of_item facts.layout i (held_events held h s)

-- what it last found of each group of its own CPU, what it last loaded of each place and did there since, and what it
-- carries
pub record KeepsPassNotes (facts : Facts) (h : History) (held : ℕ → ℕ) (r : PagePasses) : Type 0 where
  pub found : KeepsKnown facts.layout.cpus (group_count facts.layout) unfound found h held r.found
  pub loaded : KeepsKnown facts.layout.cpus (place_count facts.layout) unloaded (noted facts.layout) h held r.loaded
  pub carried : KeepsAmounts facts h held r.carried

-- the tables fit the layout
pub record IsKept (shape : Shape) (r : PagePasses) : Type 0 where
  pub layout : IsLayout shape
  pub found : HasCells shape.cpus (group_count shape) r.found
  pub loaded : HasCells shape.cpus (place_count shape) r.loaded
  pub carried : HasAmounts shape r.carried
