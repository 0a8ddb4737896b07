use Rattle.vms_plain_pcpu.proofs.MovedLocals.{MovesBelow}
use Rattle.vms_plain_pcpu.proofs.folding.fold_dead.Given as goal

-- the local parts of the counters so far have moved
abbrev pub invariant-loop-number : goal.invariant-loop-number
invariant-loop-number l = MovesBelow l.dead l.initial.counters l.number l.counters
