-- The lines of the events after the line that begins a phase, and a part of these.
use Rattle.vms_text.proofs.Common.{Begins-after, OnErr-from}
use Rattle.vms_phase_lines.proofs.phases.open.Goals as goal

pub returns-clause-err : goal.returns-clause-err
returns-clause-err c =
    OnErr-from c.begin.result _ _ (λ begins. Begins-after _ _ _ _ c.in_ok-push_phase_line.ensures.ok begins)
    c.begin.ensures.err
