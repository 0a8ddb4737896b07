-- What was written before an error stands.
use Rattle.vms_text.proofs.Common.{Begins-after, OnErr-from, OnErr-true}
use Rattle.std.proofs.Common.{◌∙◌, sym, append-nil}
use Rattle.vms_report.proofs.zoneinfo.write_zoneinfo.Goals as goal

pub returns-in_err-write_zones-clause-err : goal.returns-in_err-write_zones-clause-err
returns-in_err-write_zones-clause-err c =
    OnErr-true c.from_residual-in_err-write_zones.result _ (Begins-after _ _ _ _ (c.in_ok-reserve.ensures.items ∙ sym (append-nil _)) c.in_err-write_zones.ensures.err)

pub returns-clause-err : goal.returns-clause-err
returns-clause-err c =
    OnErr-from c.write_nodes.result _ _ (λ begins. (Begins-after _ _ _ _ (c.in_ok-reserve.ensures.items ∙ sym (append-nil _)) (Begins-after _ _ _ _ c.in_ok-write_zones.ensures.ok begins))) c.write_nodes.ensures.err
