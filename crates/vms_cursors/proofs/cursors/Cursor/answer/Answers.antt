-- A cursor goes on from the answer as its position does.
use Rattle.std.proofs.Common.{sym, subst}
use Rattle.vms_calls.specs.Common.{facts_of}
use Rattle.vms_calls.specs.declared.page_calls.PageAnswer.TheVariants as answer
use Rattle.vms_cursors.specs.Burials.{burial_at}
use Rattle.vms_cursors.specs.Calls.{AnswersCursor, IsWithin, cursor_at}
use Rattle.vms_cursors.specs.Cursors.{IsSame}
use Rattle.vms_cursors.specs.Ratings.{rating_at}
use Rattle.vms_cursors.specs.Turns.{turn_at}
use Rattle.vms_cursors.specs.declared.cursors.Cursor.TheVariants.{Bury, Rates, Turn}
use Rattle.vms_cursors.proofs.Goes.{answering-same}
use Rattle.vms_cursors.proofs.cursors.Cursor.answer.Goals as goal

pub returns-in-Rates-clause-same : goal.returns-in-Rates-clause-same
returns-in-Rates-clause-same g c = λ header base p h answers.
    let P = g.R.ThresholdRules.pressure in
    let N = g.R.ThresholdRules.normal in
    let call = c.in-Rates.call in
    let facts = facts_of header base in
    subst (λ s. IsSame (cursor_at header base p P N h s) (cursor_at header base p P N h (Rates call c.answer.result)))
    (sym c.in-Rates.is)
    (answering-same (λ made. answer.Done) (rating_at facts p P N call h c.in-Rates.at)
    (rating_at facts p P N call h c.answer.result)
    (c.answer.ensures.same facts p call h
    (subst (λ s. AnswersCursor header base p P N h s c.args.chosen c.args.mark) c.in-Rates.is answers)))

pub returns-in-Rates-clause-within : goal.returns-in-Rates-clause-within
returns-in-Rates-clause-within g c = λ shape within.
    let both = subst (IsWithin shape) c.in-Rates.is within in (both.0, c.answer.ensures.within shape both.1)

pub returns-in-Bury-clause-same : goal.returns-in-Bury-clause-same
returns-in-Bury-clause-same g c = λ header base p h answers.
    let P = g.R.ThresholdRules.pressure in
    let N = g.R.ThresholdRules.normal in
    let cpu = c.in-Bury.cpu in
    let facts = facts_of header base in
    subst (λ s. IsSame (cursor_at header base p P N h s) (cursor_at header base p P N h
    (Bury cpu c.answer-in-Bury.result)))
    (sym c.in-Bury.is)
    (answering-same (λ made. answer.Done) (burial_at facts p P N cpu h c.in-Bury.at)
    (burial_at facts p P N cpu h c.answer-in-Bury.result)
    (c.answer-in-Bury.ensures.same facts p cpu h
    (subst (λ s. AnswersCursor header base p P N h s c.args.chosen c.args.mark) c.in-Bury.is answers)))

pub returns-in-Bury-clause-within : goal.returns-in-Bury-clause-within
returns-in-Bury-clause-within g c = λ shape within.
    c.answer-in-Bury.ensures.within shape (subst (IsWithin shape) c.in-Bury.is within)

pub returns-in-Turn-clause-same : goal.returns-in-Turn-clause-same
returns-in-Turn-clause-same g c = λ header base p h answers.
    let P = g.R.ThresholdRules.pressure in
    let N = g.R.ThresholdRules.normal in
    let turn = c.in-Turn.turn in
    subst (λ s. IsSame (cursor_at header base p P N h s) (cursor_at header base p P N h
    (Turn turn c.answer-in-Turn.result)))
    (sym c.in-Turn.is)
    (answering-same (λ balance. answer.Balanced balance) (turn_at header base p P N turn h c.in-Turn.at)
    (turn_at header base p P N turn h c.answer-in-Turn.result)
    (c.answer-in-Turn.ensures.same header base p turn h
    (subst (λ s. AnswersCursor header base p P N h s c.args.chosen c.args.mark) c.in-Turn.is answers)))

pub returns-in-Turn-clause-within : goal.returns-in-Turn-clause-within
returns-in-Turn-clause-within g c = λ shape within.
    let both = subst (IsWithin shape) c.in-Turn.is within in (both.0, c.answer-in-Turn.ensures.within shape both.1)
