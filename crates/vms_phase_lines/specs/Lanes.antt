-- The passes of the lanes that have lines.
use Rattle.std.specs.Prelude.{◌≡◌, ℕ, ◌+◌, Bool, true, false, List, ◌++◌, length, slice_index_or}
use Rattle.vms_world.specs.Common.{Header, IsLaneOf, Item, Lane, Cpu, Control, has_line, is_among}
use Rattle.vms_file_order.specs.Common.{opening_of, page_passes, pass_of}
use Rattle.vms_phase_lines.specs.declared.lanes.LanePasses.{LanePasses}
use Rattle.vms_phase_lines.specs.Lines.{event_lines}

-- the slot of a lane: the number of its CPU, or the number of CPUs for the control lane
abbrev pub slot_of : ℕ → Lane → ℕ
slot_of cpus (Cpu c) = c.number
slot_of cpus Control = cpus

-- by slot, whether the lane has one of these lines
pub record ShowsLined (header : Header) (items : List Item) (lined : List Bool) : Type 0 where
  pub one_each : length lined ≡ header.layout.cpus + 1
  pub each : (lane : Lane) → IsLaneOf header lane
      → slice_index_or lined (slot_of header.layout.cpus lane) false ≡ has_line lane items

-- a pass has begun for each of these lanes, in their order
pub record HaveBegun (header : Header) (lanes : List Lane) (begun : LanePasses) : Type 0 where
  pub count : begun.begun ≡ length lanes
  pub one_each : length begun.passes ≡ header.layout.cpus + 1
  pub passes : (lane : Lane) → IsLaneOf header lane → is_among lane lanes ≡ true
      → slice_index_or begun.passes (slot_of header.layout.cpus lane) 0 ≡ pass_of lanes lane

-- nothing else has happened, and the lines of that are written
pub record OpensLanes (header : Header) (lanes : List Lane) (begun : LanePasses) (out out' : List ℕ) : Type 0 where
  pub begins : HaveBegun header lanes begun
  pub lines : out' ≡ out ++ event_lines (opening_of page_passes lanes)
