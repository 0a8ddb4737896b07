-- The counter of each base is below the number of counters.
use Rattle.std.proofs.Common.{◌∙◌, arith, ap, length, reverse, take, pos}
use Rattle.vms_header.proofs.DraftBases.{length-bases_of}
use Rattle.vms_header.proofs.headers.bases_of.Goals as goal

pub set-requires : goal.set-requires
set-requires c =
    let bases = c.args.bases.now in
    let long = ap length c.loop-base.invariant
    ∙ length-bases_of c.args.count (reverse (take c.loop-base.base-index bases)) in
    omega (arith, long, c.requires c.loop-base.base-index (record { counter = 0; value = pos 0 }) c.loop-base-test.true)
