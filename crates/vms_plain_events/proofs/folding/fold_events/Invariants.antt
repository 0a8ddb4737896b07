use Rattle.vms_plain_events.proofs.MovedWords.{MovesBelow}
use Rattle.vms_plain_events.proofs.folding.fold_events.Given as goal

-- the words of the events so far have moved
abbrev pub invariant-loop-number : goal.invariant-loop-number
invariant-loop-number l = MovesBelow l.from l.into l.initial.events l.number l.events
