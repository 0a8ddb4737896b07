-- A cursor goes on as its fold does.
use Rattle.vms_calls.specs.Common.{Header}
use Rattle.vms_calls.specs.declared.page_calls.PageAnswer.TheVariants as answer
use Rattle.vms_cursors.specs.Folds.{fold_at}
use Rattle.vms_cursors.specs.declared.cursors.Cursor.TheVariants.{Fold}
use Rattle.vms_cursors.proofs.CursorGoes.{goes-as}
use Rattle.vms_cursors.proofs.Goes.{answering-goes}
use Rattle.vms_cursor_steps.proofs.cursor_steps.fold_cursor_on.Goals as goal

pub returns-else-not-fold_on-clause-goes : goal.returns-else-not-fold_on-clause-goes
returns-else-not-fold_on-clause-goes g c = λ yes base p h.
    let header : Header = c.args.header.now in
    goes-as header base p g.R.ThresholdRules.pressure g.R.ThresholdRules.normal h c.args.cursor.now
    (Fold c.in-Fold.fold c.in-Fold.at) c.in-Fold.is c.args.step.now (Fold c.in-Fold.fold c.fold_on.new.at)
    (answering-goes (λ made. answer.Done) (fold_at header.layout c.in-Fold.fold c.in-Fold.at)
    (fold_at header.layout c.in-Fold.fold c.fold_on.new.at) c.args.step.now
    (c.fold_on.ensures.goes c.if-not-fold_on.false))
