-- The line of one group more.
use Rattle.std.proofs.Common.{◌<◌, ◌++◌, ◌∙◌, List, ℕ, ap, sym, arith, length}
use Rattle.vms_group_core.specs.Common.{as_is, standing, value_at}
use Rattle.vms_text.specs.Common.{sentence}
use Rattle.vms_text.proofs.Common.{append_twice, Begins-after, OnErr-true}
use Rattle.vms_group_report.specs.Common.{group_words, pending_under}
use Rattle.vms_group_report.proofs.MoreGroups.{texts-more}
use Rattle.vms_group_report.proofs.reports.write_group_report.Goals as goal

pub loop-number-preserved : goal.loop-number-preserved
loop-number-preserved c =
    let tree = c.args.tree.now in
    let w = c.args.words.now in
    let n = c.loop-number.number in
    let names = c.args.names.now in
    let within : n < length names = omega (arith, c.loop-number-test.true) in
    let line : ℕ × List ℕ → List ℕ = λ x. sentence (group_words x.1 (value_at w x.0) (pending_under tree w x.0)
    (standing as_is tree w x.0)) in
    append_twice _ _ _ _ _ _
    (c.in_ok-write_group.ensures.ok
    ∙ ap (λ (name : List ℕ). c.loop-number.out.items ++ line (n, name)) c.index-names-number.is)
    c.loop-number.invariant
    (sym (texts-more line names n c.index-names-number.result within))

pub returns-in_err-write_group-clause-err : goal.returns-in_err-write_group-clause-err
returns-in_err-write_group-clause-err c =
    OnErr-true c.from_residual.result _
    (Begins-after _ _ _ _ c.loop-number.invariant c.in_err-write_group.ensures.err)
