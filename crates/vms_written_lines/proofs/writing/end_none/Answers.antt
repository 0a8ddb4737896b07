use Rattle.std.proofs.Common.{[], codes}
use Rattle.vms_written_lines.proofs.EndedLines.{ended-more}
use Rattle.vms_written_lines.proofs.writing.end_none.Goals as goal

pub returns-clause-ok : goal.returns-clause-ok
returns-clause-ok c =
    ended-more c.end_line.result _ _ _ (codes "-") ([]) c.in_ok-push_text.ensures.ok c.end_line.ensures.ok
