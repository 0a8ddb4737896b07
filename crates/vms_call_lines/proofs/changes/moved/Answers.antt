-- A sum past the threshold is carried with the overstep.
use Rattle.std.proofs.Common.{arith, ◌<◌, ◌+ℤ◌, ℕ, ℤ, pos, ◌%◌, slice_index_or, unsigned_abs}
use Rattle.std.proofs.lemmas.Int.{ints}
use Rattle.vms_core.proofs.Common.{carried_by-past}
use Rattle.vms_call_lines.proofs.changes.moved.Goals as goal

pub returns-clause-value : goal.returns-clause-value
returns-clause-value c =
    let at : ℕ = c.args.counter.number % 8 in
    let found : ℤ = slice_index_or c.args.list.now.values at (pos 0) in
    let byte = c.args.list.now.bytes at in
    let small = c.requires in
    let past : c.args.t < unsigned_abs (found +ℤ c.args.delta) = omega (arith, ints, byte.0, byte.1, small) in
    omega (arith, ints, byte.0, byte.1, small, carried_by-past c.args.mode c.args.t found c.args.delta past)
