-- The goal was that the blocks are those of the layout.
use Rattle.std.proofs.Common.{refl}
use Rattle.vms_words.specs.Spots.{blocks_of}
use Rattle.vms_words.proofs.spots.Blocks.of.Goals as goal

pub returns : goal.returns
unfolding blocks_of
returns c =
    rw (
      c.row_width-rows.ensures,
      c.row_width-width.ensures,
      c.counters-systems.ensures.value,
      c.items.ensures.value,
      c.cpus.ensures.value,
      c.groups-thresholds.ensures.value,
      c.places.ensures.value,
      c.zones-zones.ensures.value,
    )
    refl
