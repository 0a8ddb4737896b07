-- What is due in the part that stands.
use Rattle.std.proofs.Common.{sym, subst}
use Rattle.std.specs.Prelude.{IfSome}
use Rattle.vms_cursors.specs.BurialClauses.{BurialDue, BurialEnded}
use Rattle.vms_cursors.proofs.burial_positions.BurialPosition.due.Goals as goal

pub returns-in-Folds-clause-due : goal.returns-in-Folds-clause-due
returns-in-Folds-clause-due g c =
    let shape = c.args.layout.now in
    let P = g.R.ThresholdRules.pressure in
    let N = g.R.ThresholdRules.normal in
    subst (λ at. BurialDue shape P N c.args.cpu at c.due_fold.result) (sym c.in-Folds.is) c.due_fold.ensures

pub returns-in-Rates-clause-due : goal.returns-in-Rates-clause-due
returns-in-Rates-clause-due g c =
    let shape = c.args.layout.now in
    let P = g.R.ThresholdRules.pressure in
    let N = g.R.ThresholdRules.normal in
    subst (λ at. IfSome c.due.result (λ d. BurialDue shape P N c.args.cpu at d)) (sym c.in-Rates.is) c.due.ensures.due

pub returns-in-Rates-clause-ended : goal.returns-in-Rates-clause-ended
returns-in-Rates-clause-ended g c = λ none.
    let shape = c.args.layout.now in
    let P = g.R.ThresholdRules.pressure in
    let N = g.R.ThresholdRules.normal in
    subst (λ at. BurialEnded shape P N c.args.cpu at) (sym c.in-Rates.is) (c.due.ensures.ended none)
