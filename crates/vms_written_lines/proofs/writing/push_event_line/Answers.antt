use Rattle.std.proofs.Common.{decimal, drop}
use Rattle.vms_written_lines.specs.Spelling.{step_words}
use Rattle.vms_written_lines.specs.WideSteps.{widened}
use Rattle.vms_written_lines.proofs.EndedLines.{ended-line}
use Rattle.vms_written_lines.proofs.writing.push_event_line.Goals as goal

pub returns-clause-ok : goal.returns-clause-ok
returns-clause-ok c =
    ended-line c.end_step.result _ _ _ (decimal c.args.caller) _ _ (step_words (widened c.args.step.now))
    (drop 2 (step_words (widened c.args.step.now))) c.name_and_first-first.ensures c.in_ok-push_start.ensures.ok
    c.end_step.ensures.ok
