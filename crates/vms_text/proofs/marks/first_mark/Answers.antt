use Rattle.std.proofs.Common.{arith, w64}
use Rattle.std.proofs.lemmas.Nat.Bits.{bit_at-trailing_zeros}
use Rattle.vms_text.proofs.MarkedSpaces.{first_mark-within}
use Rattle.vms_text.proofs.marks.first_mark.Goals as goal

pub returns-clause-within : goal.returns-clause-within
returns-clause-within c =
    let lowest = bit_at-trailing_zeros w64 c.args.marks (omega (arith, c.requires.some)) (omega arith) in
    first_mark-within c.args.bytes.now c.args.marks _ c.requires.marks lowest.1

pub returns-clause-marked : goal.returns-clause-marked
returns-clause-marked c =
    let lowest = bit_at-trailing_zeros w64 c.args.marks (omega (arith, c.requires.some)) (omega arith) in
    lowest.1

pub returns-clause-before : goal.returns-clause-before
returns-clause-before c =
    let lowest = bit_at-trailing_zeros w64 c.args.marks (omega (arith, c.requires.some)) (omega arith) in
    lowest.2

pub returns-clause-bound : goal.returns-clause-bound
returns-clause-bound c =
    let lowest = bit_at-trailing_zeros w64 c.args.marks (omega (arith, c.requires.some)) (omega arith) in
    lowest.0
