use Rattle.std.proofs.Common.{◌∷◌, [], decimal}
use Rattle.std.specs.Fmt.{signed_decimal}
use Rattle.std.proofs.lemmas.Int.{to_z-of_z}
use Rattle.std.specs.Int.{w64}
use Rattle.vms_written_lines.specs.Spelling.{mode_word}
use Rattle.vms_written_lines.proofs.EndedLines.{ended-list}
use Rattle.vms_written_lines.proofs.writing.end_put.Goals as goal

pub returns-clause-ok : goal.returns-clause-ok
returns-clause-ok c =
    ended-list c.end_change.result _ _ _ (c.args.list.values) (decimal c.args.threshold ∷ signed_decimal c.args.delta ∷ mode_word c.args.mode ∷ []) c.push_list.ensures.eight c.in_ok-push_list.ensures.ok (rw (to_z-of_z w64 c.args.delta c.ranges.delta) at c.end_change.ensures.ok)
