-- Past the threshold the overstep stays, with its sign turned.
use Rattle.std.proofs.Common.{arith, ◌<◌, ◌+ℤ◌, unsigned_abs}
use Rattle.std.proofs.lemmas.Int.{ints}
use Rattle.vms_core.proofs.Common.{differential_after-past}
use Rattle.vms_page_words.proofs.steps.differential.Goals as goal

pub returns-else-unsigned_abs-t : goal.returns-else-unsigned_abs-t
returns-else-unsigned_abs-t c =
    let past : c.args.t < unsigned_abs (c.args.found +ℤ c.args.delta) = omega (arith, ints) in
    omega (arith, ints, differential_after-past c.args.mode c.args.t c.args.found c.args.delta past)
