-- A line of the history.
use Rattle.std.proofs.Common.{Result, Ok, Err, Some, ap, refl, sym, ◌∙◌}
use Rattle.std.specs.Prelude.{OnErr}
use Rattle.vms_history_judge.proofs.TakenLines.{few-lines, may-say, says-step}
use Rattle.vms_history_judge.proofs.judges.JudgeHistoryJudge.step.Goals as goal

pub take-requires-clause-check : goal.take-requires-clause-check
take-requires-clause-check g c =
    may-say g.W.LaneWalk.Stands g.W.LaneWalk.pressure g.W.LaneWalk.normal c.args.header.now c.args.self.now
    c.in-Some.check c.in-Some.is c.requires.stands

pub take-requires-clause-few : goal.take-requires-clause-few
take-requires-clause-few g c =
    few-lines g.W.LaneWalk.Stands g.W.LaneWalk.pressure g.W.LaneWalk.normal c.args.header.now c.args.self.now
    c.in-Some.check c.in-Some.is c.requires.stands

on-err : {X E : Type 0} (r : Result X E) (P Q : Type 0) → (P → Q) → OnErr r P → OnErr r Q
on-err (Ok x) P Q moves told = told
on-err (Err e) P Q moves told = moves told

pub returns-in-Some-clause-same : goal.returns-in-Some-clause-same
returns-in-Some-clause-same g c =
    let old = c.args.self.now in
    on-err c.take.result _ _
    (λ same. ap (λ check. record old { check = Some check }) same
    ∙ ap (λ found. record old { check = found }) (sym c.in-Some.is)) c.take.ensures.same

pub returns-in-Some-clause-judged : goal.returns-in-Some-clause-judged
returns-in-Some-clause-judged g c = λ segments lines took.
    let old = c.args.self.now in
    says-step g.W.LaneWalk.Stands g.W.LaneWalk.pressure g.W.LaneWalk.normal c.args.header.now segments lines
    c.args.line.now old (record old { check = Some c.take.new.check }) c.in-Some.check c.take.new.check c.in-Some.is
    refl c.take.result c.take.ensures.judged took
