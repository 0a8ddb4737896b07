-- How many lines of a phase each lane has.
use Rattle.std.specs.Prelude.{◌≡◌, ℕ, List, length, slice_index_or}
use Rattle.vms_answers.specs.Common.{lane_place}
use Rattle.vms_world.specs.Common.{IsPhaseScript, Item, Lane, lane_items}

-- the number in each lane's place is how many of these lines, which make a script, are of the lane
pub record AreCounted (counts : List ℕ) (items : List Item) : Type 0 where
  pub kept : IsPhaseScript items
  pub each : (lane : Lane) → slice_index_or counts (lane_place lane) 0 ≡ length (lane_items lane items)
