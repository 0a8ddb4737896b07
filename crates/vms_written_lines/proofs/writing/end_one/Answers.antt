use Rattle.std.proofs.Common.{[], decimal}
use Rattle.vms_written_lines.proofs.EndedLines.{ended-more}
use Rattle.vms_written_lines.proofs.writing.end_one.Goals as goal

pub returns-clause-ok : goal.returns-clause-ok
returns-clause-ok c =
    ended-more c.end_line.result _ _ _ (decimal c.args.a) ([]) c.in_ok-push_unsigned.ensures.ok c.end_line.ensures.ok
