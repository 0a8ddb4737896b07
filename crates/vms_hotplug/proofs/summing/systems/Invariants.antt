use Rattle.vms_hotplug.proofs.ItemSums.{HasBases}
use Rattle.vms_hotplug.proofs.summing.systems.Given as goal

abbrev pub invariant-loop-number : goal.invariant-loop-number
invariant-loop-number l = HasBases l.header l.number l.values
