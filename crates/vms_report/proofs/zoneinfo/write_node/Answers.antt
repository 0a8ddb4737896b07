-- The heading, and a part of the lines under it.
use Rattle.std.proofs.Common.{refl}
use Rattle.vms_text.proofs.Common.{Begins-after, OnErr-from}
use Rattle.vms_report.proofs.zoneinfo.write_node.Goals as goal

pub returns-clause-err : goal.returns-clause-err
returns-clause-err c =
    OnErr-from c.write_place.result _ _
    (λ begins. Begins-after _ _ _ _ refl (Begins-after _ _ _ _ refl (Begins-after _ _ _ _ c.in_ok-push_node.ensures.ok
    (Begins-after _ _ _ _ c.in_ok-extend_from_slice.ensures.items begins))))
    c.write_place.ensures.err
