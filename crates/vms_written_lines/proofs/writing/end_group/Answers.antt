use Rattle.std.proofs.Common.{[], decimal}
use Rattle.vms_text.proofs.Common.{Begins-after, OnErr-from}
use Rattle.vms_written_lines.specs.Spelling.{list_words}
use Rattle.vms_written_lines.proofs.EndedLines.{ended-more}
use Rattle.vms_written_lines.proofs.writing.end_group.Goals as goal

pub returns-clause-ok : goal.returns-clause-ok
returns-clause-ok c =
    ended-more c.end_list.result _ _ _ (decimal c.args.group) (list_words c.args.list.values []) c.in_ok-push_unsigned.ensures.ok c.end_list.ensures.ok

pub returns-clause-err : goal.returns-clause-err
returns-clause-err c =
    OnErr-from c.end_list.result _ _ (Begins-after _ _ _ _ c.in_ok-push_unsigned.ensures.ok) c.end_list.ensures.err
