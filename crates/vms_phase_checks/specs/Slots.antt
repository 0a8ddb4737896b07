-- Which lane a pass is of, by the CPU that it owns, and the slot of a lane: the number of its CPU, or the number of
-- CPUs for the control lane.
use Rattle.std.specs.Prelude.{◌≡◌, ℕ, ◌+◌, ◌<◌, ◌≤◌, List, [], length, slice_index_or, Option, Some, None}
use Rattle.vms_world.specs.Common.{Act, CpuId, Item, Lane, Cpu, Control, acts_of}
use Rattle.vms_registers.specs.Slots.{owner_of}

-- the lane whose pass owns a CPU, or the control lane
abbrev pub lane_for : Option CpuId → Lane
lane_for (Some c) = Cpu c
lane_for None = Control

-- the lane whose pass stands in a slot
abbrev pub lane_in : ℕ → ℕ → Lane
lane_in cpus slot = lane_for (owner_of cpus slot)

-- a lane of one of so many CPUs, or the control lane
abbrev pub HasSlot : ℕ → Lane → Type 0
HasSlot cpus (Cpu c) = c.number < cpus
HasSlot cpus Control = Unit {0}

-- so many lists without acts
pub record AreEmpty (count : ℕ) (lists : List (List Act)) : Type 0 where
  pub one_each : length lists ≡ count
  pub each : (k : ℕ) → slice_index_or lists k [] ≡ []

-- the acts of each lane stand in its slot
pub record AreLaneActs (cpus : ℕ) (items : List Item) (lists : List (List Act)) : Type 0 where
  pub one_each : length lists ≡ cpus + 1
  pub each : (slot : ℕ) → slot ≤ cpus → slice_index_or lists slot [] ≡ acts_of (lane_in cpus slot) items
