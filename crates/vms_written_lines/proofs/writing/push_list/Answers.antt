use Rattle.std.proofs.Common.{◌∷◌, ◌++◌, ℤ, ap, map, rules, sym, take, ◌∙◌}
use Rattle.std.proofs.lemmas.Int.{to_z-of_z}
use Rattle.std.specs.Fmt.{signed_decimal}
use Rattle.std.specs.Int.{w64}
use Rattle.vms_text.specs.Common.{spaced}
use Rattle.vms_text.proofs.Common.{Begins-after, OnErr-true, append_twice}
use Rattle.vms_written_lines.proofs.EndedLines.{spaced-more}
use Rattle.vms_written_lines.proofs.writing.push_list.Goals as goal

pub returns-in_err-push_signed-clause-err : goal.returns-in_err-push_signed-clause-err
returns-in_err-push_signed-clause-err c =
    OnErr-true c.from_residual.result _
    (Begins-after _ _ _ _ c.loop-value.invariant c.in_err-push_signed.ensures.err)

pub loop-value-preserved : goal.loop-value-preserved
loop-value-preserved c =
    append_twice _ _ _ _ _ _ c.in_ok-push_signed.ensures.ok c.loop-value.invariant
    (ap (λ (z : ℤ). spaced (map signed_decimal (take c.loop-value.value-index c.args.values.now)) ++ 32 ∷ signed_decimal z)
    (to_z-of_z w64 _ (search rules))
    ∙ sym (spaced-more c.args.values.now c.loop-value.value-index _ (search rules)))
