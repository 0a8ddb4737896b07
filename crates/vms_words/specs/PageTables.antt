-- A table of page counters as words.
use Rattle.std.specs.Prelude.{◌≡◌}
use Rattle.vms_calls.specs.Common.{Facts, IsBase, Shape}
use Rattle.vms_seats.specs.Common.{Shared}
use Rattle.vms_words.specs.declared.spots.Blocks.{Blocks}
use Rattle.vms_words.specs.Spots.{blocks_of}

-- the words were made for this layout, and stand in its blocks
pub record AreMadeFor (layout : Shape) (blocks : Blocks) (words : Shared Facts) : Type 0 where
  pub base : IsBase words.facts
  pub same : words.facts.layout ≡ layout
  pub laid : blocks ≡ blocks_of layout
  pub count : words.table.words ≡ blocks.end
