-- The lines of the fold are written.
use Rattle.vms_text.proofs.Common.{Begins-after, OnErr-true}
use Rattle.vms_call_lines.proofs.burials.write_removal.Goals as goal

pub returns-in_err-push_event_line-clause-err : goal.returns-in_err-push_event_line-clause-err
returns-in_err-push_event_line-clause-err c =
    OnErr-true c.from_residual-in_err-push_event_line.result _
    (Begins-after _ _ _ _ c.in_ok-write_fold.ensures.ok.lines c.in_err-push_event_line.ensures.err)
