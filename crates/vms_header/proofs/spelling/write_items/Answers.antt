-- After a failure the text still begins with what stood there before the loop.
use Rattle.vms_text.proofs.Common.{Begins-after, OnErr-true}
use Rattle.vms_header.proofs.spelling.write_items.Goals as goal

pub returns-in_err-write_item-clause-err : goal.returns-in_err-write_item-clause-err
returns-in_err-write_item-clause-err c =
    OnErr-true c.from_residual.result _ (Begins-after _ _ _ _ c.loop-item.invariant c.in_err-write_item.ensures.err)
