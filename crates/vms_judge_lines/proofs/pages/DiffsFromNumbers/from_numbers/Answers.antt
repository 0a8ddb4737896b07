-- The list stays one of bytes with the byte that was read.
use Rattle.std.proofs.Common.{◌<◌, ◌∙◌, length, length-set, arith, rules, SFits, w64}
use Rattle.std.proofs.lemmas.Int.{to_z-of_z}
use Rattle.vms_judge_lines.proofs.Bytes.{AreBytes-set}
use Rattle.vms_judge_lines.proofs.pages.DiffsFromNumbers.from_numbers.Goals as goal

pub loop-k-preserved : goal.loop-k-preserved
loop-k-preserved c =
    let fits : SFits w64 c.in_ok-values.field-0 = search rules in
    let within : c.loop-k.k < length c.loop-k.values = omega (arith, c.loop-k-test.true, c.loop-k.invariant.0) in
    rw (to_z-of_z w64 c.in_ok-values.field-0 fits) (
      length-set c.loop-k.values c.loop-k.k c.in_ok-values.field-0 ∙ c.loop-k.invariant.0,
      AreBytes-set c.loop-k.values c.loop-k.k c.in_ok-values.field-0 within c.in_ok-values.ensures c.loop-k.invariant.1,
    )
