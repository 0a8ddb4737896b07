use Rattle.vms_hotplug.proofs.Folds.{FoldsBelow}
use Rattle.vms_hotplug.proofs.flushing.fold.Given as goal

-- the counters so far are folded
abbrev pub invariant-loop-number : goal.invariant-loop-number
invariant-loop-number l = FoldsBelow l.layout l.cpu.number l.initial.pages l.number l.pages
