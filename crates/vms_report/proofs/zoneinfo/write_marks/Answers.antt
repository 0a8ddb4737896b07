-- What was written before an error stands.
use Rattle.vms_text.proofs.Common.{Begins-after, OnErr-from}
use Rattle.vms_report.proofs.zoneinfo.write_marks.Goals as goal

pub returns-clause-err : goal.returns-clause-err
returns-clause-err c =
    OnErr-from c.write_indented-4.result _ _ (λ begins. (Begins-after _ _ _ _ c.in_ok-write_indented.ensures.ok (Begins-after _ _ _ _ c.in_ok-write_indented-2.ensures.ok (Begins-after _ _ _ _ c.in_ok-write_indented-3.ensures.ok begins)))) c.write_indented-4.ensures.err
