use Rattle.vms_hotplug.proofs.SetPlaces.{SetsBelow}
use Rattle.vms_hotplug.proofs.settings.set_place.Given as goal

-- the CPUs so far have got the threshold
abbrev pub invariant-loop-cpu : goal.invariant-loop-cpu
invariant-loop-cpu l = SetsBelow l.states l.places l.place l.threshold l.initial.thresholds l.cpu l.thresholds
