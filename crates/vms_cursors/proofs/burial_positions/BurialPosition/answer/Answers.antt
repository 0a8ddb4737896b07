-- A burial goes on from the answer as its refresh does.
use Rattle.std.proofs.Common.{sym, subst}
use Rattle.vms_cursors.specs.BurialClauses.{BurialAnswers}
use Rattle.vms_cursors.specs.Burials.{IsBurialAnswered, IsBurialWithin, burial_at}
use Rattle.vms_cursors.specs.Cursors.{IsSame}
use Rattle.vms_cursors.specs.declared.burial_positions.BurialPosition.TheVariants.{Rates}
use Rattle.vms_cursors.specs.declared.rating_calls.RatingCall.TheVariants.{Refresh}
use Rattle.vms_cursors.proofs.burial_positions.BurialPosition.answer.Goals as goal

pub returns-in-Folds-clause-same : goal.returns-in-Folds-clause-same
returns-in-Folds-clause-same g c = λ facts p cpu h answers steps answer. ((λ run. run), (λ run. run))

pub returns-in-Folds-clause-answered : goal.returns-in-Folds-clause-answered
returns-in-Folds-clause-answered g c = subst IsBurialAnswered (sym c.in-Folds.is) (tt {0})

pub returns-in-Folds-clause-within : goal.returns-in-Folds-clause-within
returns-in-Folds-clause-within g c = λ shape within. within

pub returns-in-Rates-clause-same : goal.returns-in-Rates-clause-same
returns-in-Rates-clause-same g c = λ facts p cpu h answers.
    let P = g.R.ThresholdRules.pressure in
    let N = g.R.ThresholdRules.normal in
    subst (λ at. IsSame (burial_at facts p P N cpu h at) (burial_at facts p P N cpu h (Rates c.answer.result)))
    (sym c.in-Rates.is) (c.answer.ensures.same facts p Refresh h
    (subst (λ at. BurialAnswers facts p P N h at c.args.chosen c.args.mark) c.in-Rates.is answers))

pub returns-in-Rates-clause-within : goal.returns-in-Rates-clause-within
returns-in-Rates-clause-within g c = λ shape within.
    c.answer.ensures.within shape (subst (IsBurialWithin shape) c.in-Rates.is within)
