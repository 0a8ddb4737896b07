-- Both handles are of the counters that they were of.
use Rattle.pool_example.specs.Taking.{IsStill}
use Rattle.pool_example.proofs.use_up.Given as goal

abbrev pub invariant-loop-taken : goal.invariant-loop-taken
invariant-loop-taken g l = IsStill l.first l.initial.first × IsStill l.second l.initial.second
