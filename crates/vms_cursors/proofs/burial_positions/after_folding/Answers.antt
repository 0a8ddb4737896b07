-- The burial goes on as its fold does.
use Rattle.std.proofs.Common.{subst}
use Rattle.vms_cursors.specs.RatingClauses.{facts_with}
use Rattle.vms_cursors.specs.Cursors.{GoesOn, Stops}
use Rattle.vms_cursors.specs.Folds.{fold_at}
use Rattle.vms_cursors.specs.declared.folds.Fold.{Fold}
use Rattle.vms_cursors.proofs.BurialGoes.{folds-go, folds-stop}
use Rattle.vms_cursors.proofs.burial_positions.after_folding.Goals as goal

pub returns-in-Some-clause-goes : goal.returns-in-Some-clause-goes
returns-in-Some-clause-goes g c = λ sizes base p h.
    let shape = c.args.layout.now in
    let P = g.R.ThresholdRules.pressure in
    let N = g.R.ThresholdRules.normal in
    folds-go (facts_with shape sizes base) p P N c.args.cpu h c.args.at c.requires.unended c.args.step c.in-Some.later
    (subst (λ (f : Fold). GoesOn (fold_at shape f c.args.at) c.args.step (fold_at shape f c.in-Some.later))
    c.burial_fold.ensures c.in-Some.ensures.goes)

pub returns-in-None-clause-stops : goal.returns-in-None-clause-stops
returns-in-None-clause-stops g c = λ none sizes base p h.
    let shape = c.args.layout.now in
    let P = g.R.ThresholdRules.pressure in
    let N = g.R.ThresholdRules.normal in
    folds-stop (facts_with shape sizes base) p P N c.args.cpu h c.args.at c.requires.unended c.args.step
    (subst (λ (f : Fold). Stops (fold_at shape f c.args.at) c.args.step) c.burial_fold.ensures
    (c.in-None.ensures.stops none))
