-- The handle is of the counters that it was of.
use Rattle.pool_example.specs.Taking.{IsStill}
use Rattle.pool_example.proofs.pool.take.Given as goal

abbrev pub invariant-loop : goal.invariant-loop
invariant-loop l = IsStill l.handle l.initial.handle
