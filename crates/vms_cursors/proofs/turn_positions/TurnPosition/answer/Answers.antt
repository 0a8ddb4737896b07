-- A turn goes on from the answer as the call that gives thresholds does.
use Rattle.std.proofs.Common.{subst, sym}
use Rattle.vms_calls.specs.Common.{facts_of}
use Rattle.vms_calls.specs.declared.answers.Balance.TheVariants.{Yes}
use Rattle.vms_plans.specs.Common.{ends, recorded}
use Rattle.vms_cursors.specs.Cursors.{IsSame}
use Rattle.vms_cursors.specs.Ratings.{rating_at}
use Rattle.vms_cursors.specs.TurnClauses.{TurnAnswers}
use Rattle.vms_cursors.specs.Turns.{IsTurnPositionWithin, after_pressure, turn_at}
use Rattle.vms_cursors.specs.declared.rating_calls.RatingCall.TheVariants.{Normal, Pressure}
use Rattle.vms_cursors.specs.declared.turn_positions.TurnPosition.TheVariants.{Presses, Settles}
use Rattle.vms_cursors.proofs.Followed.{followed-same, recorded-same}
use Rattle.vms_cursors.proofs.turn_positions.TurnPosition.answer.Goals as goal

pub returns-in-Presses-clause-same : goal.returns-in-Presses-clause-same
returns-in-Presses-clause-same g c = λ header base p turn h answers.
    let P = g.R.ThresholdRules.pressure in
    let N = g.R.ThresholdRules.normal in
    let facts = facts_of header base in
    let here = rating_at facts p P N (Pressure turn.node) h c.in-Presses.at in
    let other = rating_at facts p P N (Pressure turn.node) h c.answer.result in
    subst (λ at. IsSame (turn_at header base p P N turn h at) (turn_at header base p P N turn h
    (Presses c.answer.result))) (sym c.in-Presses.is)
    (followed-same (recorded p h here) (after_pressure header base p P N turn) (recorded p h other)
    (recorded-same p h here other (c.answer.ensures.same facts p (Pressure turn.node) h
    (subst (λ at. TurnAnswers header base p P N turn h at c.args.chosen c.args.mark) c.in-Presses.is answers))))

pub returns-in-Presses-clause-within : goal.returns-in-Presses-clause-within
returns-in-Presses-clause-within g c = λ shape within.
    c.answer.ensures.within shape (subst (IsTurnPositionWithin shape) c.in-Presses.is within)

pub returns-in-Settles-clause-same : goal.returns-in-Settles-clause-same
returns-in-Settles-clause-same g c = λ header base p turn h answers.
    let P = g.R.ThresholdRules.pressure in
    let N = g.R.ThresholdRules.normal in
    let facts = facts_of header base in
    let zone = c.in-Settles.zone in
    let verdict = c.in-Settles.verdict in
    let later = c.answer-in-Settles.result in
    subst (λ at. IsSame (turn_at header base p P N turn h at) (turn_at header base p P N turn h
    (Settles zone verdict later))) (sym c.in-Settles.is)
    (followed-same (rating_at facts p P N (Normal turn.node) h c.in-Settles.at) (λ done. ends (Yes zone verdict))
    (rating_at facts p P N (Normal turn.node) h later)
    (c.answer-in-Settles.ensures.same facts p (Normal turn.node) h
    (subst (λ at. TurnAnswers header base p P N turn h at c.args.chosen c.args.mark) c.in-Settles.is answers)))

pub returns-in-Settles-clause-within : goal.returns-in-Settles-clause-within
returns-in-Settles-clause-within g c = λ shape within.
    c.answer-in-Settles.ensures.within shape (subst (IsTurnPositionWithin shape) c.in-Settles.is within)
