use Rattle.vms_hotplug.proofs.SetMarks.{MarksBelow}
use Rattle.vms_hotplug.proofs.settings.set_marks.Given as goal

-- the zones so far have got their marks
abbrev pub invariant-loop-zone : goal.invariant-loop-zone
invariant-loop-zone l = MarksBelow l.header l.zones l.initial.pages l.zone l.pages
