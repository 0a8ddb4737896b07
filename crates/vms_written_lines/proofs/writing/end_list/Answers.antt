use Rattle.std.proofs.Common.{[]}
use Rattle.vms_written_lines.proofs.EndedLines.{ended-list}
use Rattle.vms_written_lines.proofs.writing.end_list.Goals as goal

pub returns-clause-ok : goal.returns-clause-ok
returns-clause-ok c =
    ended-list c.end_line.result _ _ _ (c.args.list.values) ([]) c.push_list.ensures.eight c.in_ok-push_list.ensures.ok c.end_line.ensures.ok
