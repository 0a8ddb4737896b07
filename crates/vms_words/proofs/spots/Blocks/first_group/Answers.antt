-- The goal was that the place fits: the CPU's groups begin before the thresholds.
use Rattle.vms_words.proofs.OwnGroups.{first-fits}
use Rattle.vms_words.proofs.spots.Blocks.first_group.Goals as goal

pub cell_from-requires : goal.cell_from-requires
cell_from-requires c = first-fits c.args.layout.now c.requires.layout c.args.self.now c.requires.laid c.args.cpu
    c.requires.cpu
