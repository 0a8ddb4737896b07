-- The next answer is the line's own, or another's.
use Rattle.std.proofs.Common.{ltb-true, sym, ◌∙◌}
use Rattle.vms_answers.proofs.TakenAnswers.{taken_answer-next, taken_answer-none}
use Rattle.vms_answers.proofs.lane_answers.own_answer.Goals as goal

pub returns-then-number-clause-some : goal.returns-then-number-clause-some
returns-then-number-clause-some c =
    let found = c.in_ok-answer.ensures.lookup in
    taken_answer-next c.args.answers.now c.args.next c.args.number c.in_ok-answer.answer.now
    (ltb-true _ _ (sym found.0)) found.1
    (sym c.number.ensures ∙ c.if-number.true)

pub returns-else-number-clause-none : goal.returns-else-number-clause-none
returns-else-number-clause-none c =
    let found = c.in_ok-answer.ensures.lookup in
    taken_answer-none c.args.answers.now c.args.next c.args.number c.in_ok-answer.answer.now
    (ltb-true _ _ (sym found.0)) found.1
    (λ same. c.if-number.false (c.number.ensures ∙ same))
