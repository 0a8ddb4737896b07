use Rattle.std.proofs.Common.{◌∷◌, [], decimal}
use Rattle.vms_written_lines.proofs.EndedLines.{ended-more}
use Rattle.vms_written_lines.proofs.writing.end_two.Goals as goal

pub returns-clause-ok : goal.returns-clause-ok
returns-clause-ok c =
    ended-more c.end_one.result _ _ _ (decimal c.args.a) (decimal c.args.b ∷ []) c.in_ok-push_unsigned.ensures.ok c.end_one.ensures.ok
