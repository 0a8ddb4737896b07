use Rattle.std.proofs.Common.{◌∙◌, arith}
use Rattle.std.proofs.lemmas.Bool.Decides.{nat_tests}
use Rattle.std.proofs.lemmas.Grind.{common_steps}
use Rattle.vms_text.proofs.Digits.{digits_from-large}
use Rattle.vms_text.proofs.numbers.read_digits.Goals as goal

pub returns-in_err-checked_mul : goal.returns-in_err-checked_mul
returns-in_err-checked_mul c =
    let large =
    digits_from-large c.args.most c.loop-byte.value c.args.digits.now c.loop-byte.byte-index (omega arith)
    (grind (arith, nat_tests)) (grind (arith, common_steps)) in
    c.from_residual.ensures ∙ large ∙ c.loop-byte.invariant.1

pub returns-in_err-value : goal.returns-in_err-value
returns-in_err-value c =
    let large =
    digits_from-large c.args.most c.loop-byte.value c.args.digits.now c.loop-byte.byte-index (omega arith)
    (grind (arith, nat_tests)) (grind (arith, common_steps)) in
    c.from_residual-in_err-value.ensures ∙ large ∙ c.loop-byte.invariant.1

pub returns-then-most-value : goal.returns-then-most-value
returns-then-most-value c =
    let large =
    digits_from-large c.args.most c.loop-byte.value c.args.digits.now c.loop-byte.byte-index (omega arith)
    (grind (arith, nat_tests)) (grind (arith, common_steps)) in
    large ∙ c.loop-byte.invariant.1
