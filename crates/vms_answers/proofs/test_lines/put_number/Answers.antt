-- The room for the digits of a number below 2 ^ 64.
use Rattle.std.proofs.Common.{rules, arith}
use Rattle.std.proofs.lemmas.Fmt.{length-decimal-le}
use Rattle.vms_answers.proofs.test_lines.put_number.Goals as goal

pub write_digits-requires : goal.write_digits-requires
write_digits-requires c = search (rules, length-decimal-le 20)

pub returns-clause-start : goal.returns-clause-start
returns-clause-start c =
    let fits = c.ranges.number.fits in
    let short = length-decimal-le 20 c.args.number (omega arith) (omega (arith, fits)) (omega (arith, fits)) in
    (omega (arith, short, c.write_digits.ensures.start), omega (arith, c.write_digits.ensures.start))
