-- The end of the history.
use Rattle.std.proofs.Common.{◌≡◌, Option, Some, None, sym, ◌∙◌}
use Rattle.vms_history_judge.proofs.TakenLines.{may-finish, says-finish}
use Rattle.vms_history_judge.proofs.judges.JudgeHistoryJudge.finish.Goals as goal

pub counted_of-requires-clause-check : goal.counted_of-requires-clause-check
counted_of-requires-clause-check g c =
    may-finish g.W.LaneWalk.Stands g.W.LaneWalk.pressure g.W.LaneWalk.normal c.args.header.now c.args.self.now
    c.in-Some.check c.in-Some.is c.requires.stands

pub returns-in-Some : goal.returns-in-Some
returns-in-Some g c = λ segments lines took.
    says-finish g.W.LaneWalk.Stands g.W.LaneWalk.pressure g.W.LaneWalk.normal c.args.header.now segments lines
    c.args.self.now c.in-Some.check c.in-Some.is c.counted_of.result c.counted_of.ensures took

none-some : {X : Type 0} (found : Option X) (x : X) → found ≡ None → found ≡ Some x → ⊥
none-some found x none some = let both : None ≡ Some x = sym none ∙ some in cc

pub returns-in-None : goal.returns-in-None
returns-in-None g c = λ segments lines took. absurd (none-some _ took.check c.in-None.is took.here)
