-- The line of one base more is the next of the spelled lines.
use Rattle.std.proofs.Common.{sym, pos, arith}
use Rattle.vms_text.proofs.Common.{Begins-after, OnErr-true, append_twice}
use Rattle.vms_header.proofs.BaseLines.{base_lines-take_more}
use Rattle.vms_header.proofs.spelling.write_bases.Goals as goal

pub returns-in_err-write_base-clause-err : goal.returns-in_err-write_base-clause-err
returns-in_err-write_base-clause-err c =
    OnErr-true c.from_residual.result _ (Begins-after _ _ _ _ c.loop-counter.invariant c.in_err-write_base.ensures.err)

pub loop-counter-preserved : goal.loop-counter-preserved
loop-counter-preserved c =
    append_twice _ _ _ _ _ _ c.in_ok-write_base.ensures.ok c.loop-counter.invariant
    (sym (base_lines-take_more c.args.header.now c.args.header.now.bases c.loop-counter.counter (pos 0)
    (omega (arith, c.len-counter-end.ensures.len))))
