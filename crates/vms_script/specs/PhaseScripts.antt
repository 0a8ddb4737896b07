-- What a script of lines keeps, and the script of one lane of a phase.
use Rattle.std.specs.Prelude.{ℕ, ◌≤◌, nat_eq, Bool, true, false, List, length, map}
use Rattle.std.specs.List.{filter}
use Rattle.std.specs.List.Sorted.{IsStrictlyIncreasing}
use Rattle.vms_text.specs.declared.acts.Item.{Item}
use Rattle.vms_text.specs.declared.acts.Lane.{Lane}
use Rattle.vms_text.specs.declared.acts.Lane.TheVariants.{Cpu, Control}
use Rattle.vms_script.specs.declared.lane_scripts.LaneItem.{LaneItem}

-- the most lines that a script has
abbrev pub most_items : ℕ
most_items = 1000000

-- lines that make a script: not too many, and each has a higher number than those before it
pub record AreScriptLines {X : Type 0} (number_of : X → ℕ) (items : List X) : Type 0 where
  pub few : length items ≤ most_items
  pub ascend : IsStrictlyIncreasing (map number_of items)

-- lines that make the script of a phase
abbrev pub IsPhaseScript : List Item → Type 0
IsPhaseScript items = AreScriptLines (λ item. item.number) items

-- lines that make the script of a lane
abbrev pub IsLaneScript : List LaneItem → Type 0
IsLaneScript items = AreScriptLines (λ item. item.number) items

-- whether two lanes are one
abbrev pub is_lane : Lane → Lane → Bool
is_lane (Cpu cpu) (Cpu other) = nat_eq cpu.number other.number
is_lane Control Control = true
is_lane (Cpu cpu) Control = false
is_lane Control (Cpu cpu) = false

-- a line of a lane, where the lane is known
abbrev pub lane_item : Item → LaneItem
lane_item item = record { number = item.number; act = item.act }

-- the lines of one lane among these, in their order
abbrev pub lane_items : Lane → List Item → List LaneItem
lane_items lane items = map lane_item (filter (λ item. is_lane lane item.lane) items)
