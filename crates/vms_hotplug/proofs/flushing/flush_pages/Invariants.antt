use Rattle.vms_hotplug.proofs.FlushedCpus.{FlushesBelow}
use Rattle.vms_hotplug.proofs.flushing.flush_pages.Given as goal

-- the online CPUs so far are folded
abbrev pub invariant-loop-number : goal.invariant-loop-number
invariant-loop-number l = FlushesBelow l.layout l.initial.pages l.number l.pages
