-- Where no rule is asked nothing changes.
use Rattle.std.proofs.Common.{subst, sym}
use Rattle.vms_cursors.specs.Cursors.{IsSame}
use Rattle.vms_cursors.specs.RatingClauses.{Answers}
use Rattle.vms_cursors.specs.Ratings.{IsAnswered, IsPositionWithin, rating_at}
use Rattle.vms_cursors.proofs.rating_positions.RatingPosition.answer.Goals as goal

pub returns-in-Asks-clause-same : goal.returns-in-Asks-clause-same
returns-in-Asks-clause-same g c = λ facts p call h answers.
    let P = g.R.ThresholdRules.pressure in
    let N = g.R.ThresholdRules.normal in
    subst (λ at. IsSame (rating_at facts p P N call h at) (rating_at facts p P N call h c.answered.result))
    (sym c.in-Asks.is) (c.answered.ensures.same facts p call h
    (subst (λ at. Answers facts p P N call h at c.args.chosen c.args.mark) c.in-Asks.is answers))

pub returns-in-Asks-clause-within : goal.returns-in-Asks-clause-within
returns-in-Asks-clause-within g c = λ shape within.
    c.answered.ensures.within shape (subst (IsPositionWithin shape) c.in-Asks.is within)

pub returns-in-States-clause-same : goal.returns-in-States-clause-same
returns-in-States-clause-same g c = λ facts p call h answers steps answer. ((λ run. run), (λ run. run))

pub returns-in-States-clause-answered : goal.returns-in-States-clause-answered
returns-in-States-clause-answered g c = subst IsAnswered (sym c.in-States.is) (tt {0})

pub returns-in-States-clause-within : goal.returns-in-States-clause-within
returns-in-States-clause-within g c = λ shape within. within

pub returns-in-Zones-clause-same : goal.returns-in-Zones-clause-same
returns-in-Zones-clause-same g c = λ facts p call h answers steps answer. ((λ run. run), (λ run. run))

pub returns-in-Zones-clause-answered : goal.returns-in-Zones-clause-answered
returns-in-Zones-clause-answered g c = subst IsAnswered (sym c.in-Zones.is) (tt {0})

pub returns-in-Zones-clause-within : goal.returns-in-Zones-clause-within
returns-in-Zones-clause-within g c = λ shape within. within

pub returns-in-Numbers-clause-same : goal.returns-in-Numbers-clause-same
returns-in-Numbers-clause-same g c = λ facts p call h answers steps answer. ((λ run. run), (λ run. run))

pub returns-in-Numbers-clause-answered : goal.returns-in-Numbers-clause-answered
returns-in-Numbers-clause-answered g c = subst IsAnswered (sym c.in-Numbers.is) (tt {0})

pub returns-in-Numbers-clause-within : goal.returns-in-Numbers-clause-within
returns-in-Numbers-clause-within g c = λ shape within. within

pub returns-in-Mark-clause-same : goal.returns-in-Mark-clause-same
returns-in-Mark-clause-same g c = λ facts p call h answers steps answer. ((λ run. run), (λ run. run))

pub returns-in-Mark-clause-answered : goal.returns-in-Mark-clause-answered
returns-in-Mark-clause-answered g c = subst IsAnswered (sym c.in-Mark.is) (tt {0})

pub returns-in-Mark-clause-within : goal.returns-in-Mark-clause-within
returns-in-Mark-clause-within g c = λ shape within. within

pub returns-in-Thresholds-clause-same : goal.returns-in-Thresholds-clause-same
returns-in-Thresholds-clause-same g c = λ facts p call h answers steps answer. ((λ run. run), (λ run. run))

pub returns-in-Thresholds-clause-answered : goal.returns-in-Thresholds-clause-answered
returns-in-Thresholds-clause-answered g c = subst IsAnswered (sym c.in-Thresholds.is) (tt {0})

pub returns-in-Thresholds-clause-within : goal.returns-in-Thresholds-clause-within
returns-in-Thresholds-clause-within g c = λ shape within. within

pub returns-in-Nodes-clause-same : goal.returns-in-Nodes-clause-same
returns-in-Nodes-clause-same g c = λ facts p call h answers steps answer. ((λ run. run), (λ run. run))

pub returns-in-Nodes-clause-answered : goal.returns-in-Nodes-clause-answered
returns-in-Nodes-clause-answered g c = subst IsAnswered (sym c.in-Nodes.is) (tt {0})

pub returns-in-Nodes-clause-within : goal.returns-in-Nodes-clause-within
returns-in-Nodes-clause-within g c = λ shape within. within
