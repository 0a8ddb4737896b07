-- The lines so far are counted.
use Rattle.std.proofs.Common.{take}
use Rattle.vms_group_phase.specs.Common.{AreCounted}
use Rattle.vms_group_phase.proofs.counted_items.count_items.Given as goal

abbrev pub invariant-loop-item : goal.invariant-loop-item
invariant-loop-item l = AreCounted l.tree l.counts (take l.item-index l.items)
