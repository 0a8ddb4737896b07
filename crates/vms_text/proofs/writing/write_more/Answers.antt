use Rattle.vms_text.proofs.Appends.{Begins-after, OnErr-true}
use Rattle.vms_text.proofs.writing.write_more.Goals as goal

pub returns-in_err-write_word-clause-err : goal.returns-in_err-write_word-clause-err
returns-in_err-write_word-clause-err c =
    OnErr-true c.from_residual-in_err-write_word.result _
    (Begins-after _ _ _ _ c.loop-word.invariant
    (Begins-after _ _ _ _ c.in_ok-push.ensures.items c.in_err-write_word.ensures.err))
