-- A line that answers, and one that doesn't.
use Rattle.std.proofs.Common.{◌≡◌, ℕ, List, [], ◌∷◌, ◌++◌, Option, Some, None, Ok, Err, append-nil, subst, sym}
use Rattle.std.specs.Prelude.{Result, OnOk}
use Rattle.vms_answers.specs.declared.answers.Answer.{Answer}
use Rattle.vms_answers.specs.Common.{NumberedAnswer}
use Rattle.vms_world.specs.Common.{Memory, Header, ZoneSize, Item}
use Rattle.vms_replay_phase.specs.Common.{AnswersLine, ReplayState, ReplaysLine}
use Rattle.vms_replay_phase.proofs.phases.make_next.Goals as goal

module _ {A : Type 0} (header : Header) (pressure normal : ZoneSize → ℕ → ℕ → Type 0) (item : Item)
    (now next : ReplayState) (Takes : A → List NumberedAnswer → A → Type 0) (taker : A)
    (found : Option Answer) (line : ReplaysLine header pressure normal item found now next) where
  found-line : (o : Option Answer) → found ≡ o → ReplaysLine header pressure normal item o now next
  found-line o is = subst (λ (x : Option Answer). ReplaysLine header pressure normal item x now next) is line

  answered : (answer : Answer) → found ≡ Some answer → (result : Result (Unit {0}) Memory) (taker' : A)
      → OnOk result ((first : A) (before : List NumberedAnswer) → Takes first before taker
      → Takes first (before ++ record { number = item.number; answer = answer } ∷ []) taker')
      → OnOk result (AnswersLine header pressure normal item now next Takes taker taker')
  answered answer is (Ok done) taker' takes =
      record { answer = Some answer; line = found-line (Some answer) is; takes = takes }
  answered answer is (Err error) taker' takes = tt

  silent : found ≡ None → AnswersLine header pressure normal item now next Takes taker taker
  silent is = record {
    answer = None;
    line = found-line None is;
    takes = λ first before held. subst (λ (told : List NumberedAnswer). Takes first told taker)
        (sym (append-nil before)) held;
  }

pub returns-in-Some : goal.returns-in-Some
returns-in-Some g c =
    answered c.args.header.now (g.P.Rule.answers c.args.rules.now.pressure)
    (g.N.Rule.answers c.args.rules.now.normal) c.args.item.now c.args.replay.now c.take.new.self
    (g.A.AnswerTaker.Takes c.args.header.now) c.args.taker.now c.take.result c.take.ensures c.in-Some.answer
    c.in-Some.is c.take-in-Some.result c.take-in-Some.new.self c.take-in-Some.ensures

pub returns-in-None : goal.returns-in-None
returns-in-None g c =
    silent c.args.header.now (g.P.Rule.answers c.args.rules.now.pressure)
    (g.N.Rule.answers c.args.rules.now.normal) c.args.item.now c.args.replay.now c.take.new.self
    (g.A.AnswerTaker.Takes c.args.header.now) c.args.taker.now c.take.result c.take.ensures c.in-None.is
