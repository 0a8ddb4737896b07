-- What the registers of a tree of groups keep of a history.
use Rattle.std.specs.Prelude.{◌≡◌, ℕ, ◌+◌, ◌<◌, ◌≤◌, ℤ, pos, length}
use Rattle.vms_cells.specs.Cells.{HasCells, at}
use Rattle.vms_group_core.specs.Common.{HasShape, History, IsBase, IsGroup, IsTreeCpu, carried, carried_up, group_count}
use Rattle.vms_group_core.specs.Common.{spent, state_after}
use Rattle.vms_registers.specs.Slots.{held_events}
use Rattle.vms_group_registers.specs.declared.facts.BoundedFacts.{BoundedFacts}
use Rattle.vms_group_registers.specs.declared.registers.GroupRegisters.{GroupRegisters}
use Rattle.vms_group_registers.specs.Bounded.{rising_in}
use Rattle.vms_group_registers.specs.Rises.{rise_at, times, times_rising}

-- the words that stand, what each CPU has spent, and what the pass in each slot carries
pub record KeepsGroups (facts : BoundedFacts) (h : History) (held : ℕ → ℕ) (r : GroupRegisters) : Type 0 where
  pub state : r.state ≡ state_after facts.groups h
  pub spent_cells : HasCells facts.groups.tree.cpus (group_count facts.groups.tree) r.spent
  pub spends : (c g : ℕ) → IsTreeCpu facts.groups.tree c → IsGroup facts.groups.tree g →
      at r.spent c g 0 ≡ spent h c g
  pub carried_cells : HasCells (facts.groups.tree.cpus + 1) (group_count facts.groups.tree) r.carried
  pub carries : (s g : ℕ) → s ≤ facts.groups.tree.cpus → IsGroup facts.groups.tree g →
      at r.carried s g (pos 0) ≡ carried g (held_events held h s)
  -- each amount that rises is carried up by the pass in its slot
  pub rising : (s g : ℕ) (a : ℤ) → s ≤ facts.groups.tree.cpus → IsGroup facts.groups.tree g →
      times_rising r.rises s g a ≡ times a (carried_up facts.groups.tree g (held_events held h s))
  pub known : (i : ℕ) → i < r.rises.count → IsGroup facts.groups.tree (rise_at r.rises i).group
  pub count : r.rises.count ≡ rising_in facts.groups.tree h
  pub within : r.rises.count ≤ facts.room
  pub room : length r.rises.items ≡ facts.room

-- the tables fit the facts
pub record IsKept (facts : BoundedFacts) (r : GroupRegisters) : Type 0 where
  pub base : IsBase facts.groups
  pub shaped : HasShape facts.groups.tree r.state
  pub spent_cells : HasCells facts.groups.tree.cpus (group_count facts.groups.tree) r.spent
  pub carried_cells : HasCells (facts.groups.tree.cpus + 1) (group_count facts.groups.tree) r.carried
  pub within : r.rises.count ≤ facts.room
  pub room : length r.rises.items ≡ facts.room
