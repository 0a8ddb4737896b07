-- The goals were what a change past the threshold leaves and carries.
use Rattle.std.proofs.Common.{arith, ◌<◌, ◌+ℤ◌, unsigned_abs}
use Rattle.std.proofs.lemmas.Int.{ints}
use Rattle.vms_core.proofs.Common.{differential_after-past, carried_by-past}
use Rattle.vms_page_passes.proofs.changes.change.Goals as goal

pub returns-clause-differential : goal.returns-clause-differential
returns-clause-differential c =
    let past : c.args.threshold < unsigned_abs (c.args.found +ℤ c.args.delta) = omega (arith, ints) in
    omega (arith, ints, differential_after-past c.args.mode c.args.threshold c.args.found c.args.delta past)

pub returns-clause-carried : goal.returns-clause-carried
returns-clause-carried c =
    let past : c.args.threshold < unsigned_abs (c.args.found +ℤ c.args.delta) = omega (arith, ints) in
    omega (arith, ints, carried_by-past c.args.mode c.args.threshold c.args.found c.args.delta past)
