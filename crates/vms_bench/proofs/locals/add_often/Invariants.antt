use Rattle.std.proofs.Common.{◌≤◌, unsigned_abs}
use Rattle.vms_seats.specs.Common.{IsFrom}
use Rattle.vms_bench.proofs.locals.add_often.Given as goal

abbrev pub invariant-loop : goal.invariant-loop
invariant-loop g l = IsFrom l.pass.pass l.table × (unsigned_abs l.amount ≤ 3)
