-- What is due in the fold, and the removal after it.
use Rattle.std.proofs.Common.{refl, subst}
use Rattle.vms_cursors.specs.RatingClauses.{facts_with}
use Rattle.vms_cursors.specs.Cursors.{HasEnded, IsDue}
use Rattle.vms_cursors.specs.Folds.{fold_at}
use Rattle.vms_cursors.specs.declared.folds.Fold.{Fold}
use Rattle.vms_cursors.proofs.BurialGoes.{folds-due, removals-due}
use Rattle.vms_cursors.proofs.burial_positions.due_fold.Goals as goal

pub returns-in-Some : goal.returns-in-Some
returns-in-Some g c = λ sizes base p h.
    let shape = c.args.layout.now in
    let P = g.R.ThresholdRules.pressure in
    let N = g.R.ThresholdRules.normal in
    folds-due (facts_with shape sizes base) p P N c.args.cpu h c.args.at c.in-Some.due
    (subst (λ (f : Fold). IsDue (fold_at shape f c.args.at) c.in-Some.due) c.burial_fold.ensures c.in-Some.ensures.due)

pub returns-in-None : goal.returns-in-None
returns-in-None g c = λ sizes base p h.
    let shape = c.args.layout.now in
    let P = g.R.ThresholdRules.pressure in
    let N = g.R.ThresholdRules.normal in
    removals-due (facts_with shape sizes base) p P N c.args.cpu h c.args.at
    (subst (λ (f : Fold). HasEnded (fold_at shape f c.args.at) (tt {0})) c.burial_fold.ensures
    (c.in-None.ensures.ended refl))
