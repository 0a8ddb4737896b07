-- How the part that stands goes on.
use Rattle.std.proofs.Common.{sym, subst}
use Rattle.std.specs.Prelude.{IfSome}
use Rattle.vms_cursors.specs.BurialClauses.{BurialGoes, BurialStops}
use Rattle.vms_cursors.proofs.burial_positions.BurialPosition.next.Goals as goal

pub returns-in-Folds-clause-goes : goal.returns-in-Folds-clause-goes
returns-in-Folds-clause-goes g c =
    let shape = c.args.layout.now in
    let P = g.R.ThresholdRules.pressure in
    let N = g.R.ThresholdRules.normal in
    subst (λ at. IfSome c.after_fold.result (λ later. BurialGoes shape P N c.args.cpu at c.args.step later))
    (sym c.in-Folds.is)
    c.after_fold.ensures.goes

pub returns-in-Folds-clause-stops : goal.returns-in-Folds-clause-stops
returns-in-Folds-clause-stops g c = λ none.
    let shape = c.args.layout.now in
    let P = g.R.ThresholdRules.pressure in
    let N = g.R.ThresholdRules.normal in
    subst (λ at. BurialStops shape P N c.args.cpu at c.args.step) (sym c.in-Folds.is) (c.after_fold.ensures.stops none)

pub returns-in-Rates-clause-goes : goal.returns-in-Rates-clause-goes
returns-in-Rates-clause-goes g c =
    let shape = c.args.layout.now in
    let P = g.R.ThresholdRules.pressure in
    let N = g.R.ThresholdRules.normal in
    subst (λ at. IfSome c.after_rating.result (λ later. BurialGoes shape P N c.args.cpu at c.args.step later))
    (sym c.in-Rates.is)
    c.after_rating.ensures.goes

pub returns-in-Rates-clause-stops : goal.returns-in-Rates-clause-stops
returns-in-Rates-clause-stops g c = λ none.
    let shape = c.args.layout.now in
    let P = g.R.ThresholdRules.pressure in
    let N = g.R.ThresholdRules.normal in
    subst (λ at. BurialStops shape P N c.args.cpu at c.args.step) (sym c.in-Rates.is)
    (c.after_rating.ensures.stops none)
