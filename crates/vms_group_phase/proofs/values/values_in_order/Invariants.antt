-- Of each lane as many values were taken as lines of it ask so far, and the values are those of the lines so far.
use Rattle.std.proofs.Common.{take}
use Rattle.vms_group_phase.proofs.OrderedValues.{AreTaken}
use Rattle.vms_group_phase.proofs.values.values_in_order.Given as goal

abbrev pub invariant-loop-item : goal.invariant-loop-item
invariant-loop-item l = AreTaken l.lanes (take l.item-index l.items) l.counts l.values.items
