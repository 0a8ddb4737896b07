use Rattle.vms_event.proofs.MovedWords.{FoldedSoFar}
use Rattle.vms_event.proofs.tables.EventTable.fold_events.Given as goal

abbrev pub invariant-loop-number : goal.invariant-loop-number
invariant-loop-number l = FoldedSoFar l.dead l.into l.pass l.fn.pass l.number
