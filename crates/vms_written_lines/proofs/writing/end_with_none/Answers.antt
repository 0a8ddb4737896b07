use Rattle.std.proofs.Common.{◌∷◌, [], codes, decimal}
use Rattle.vms_written_lines.proofs.EndedLines.{ended-more}
use Rattle.vms_written_lines.proofs.writing.end_with_none.Goals as goal

pub returns-clause-ok : goal.returns-clause-ok
returns-clause-ok c =
    ended-more c.end_none.result _ _ _ (decimal c.args.a) (codes "-" ∷ []) c.in_ok-push_unsigned.ensures.ok c.end_none.ensures.ok
