use Rattle.std.proofs.Common.{◌≡◌, ◌∷◌, ◌++◌, [], Err, IfOk, Ok, Result, ap, sym, ◌∙◌}
use Rattle.std.proofs.lemmas.Result.{IfOk-at_ok}
use Rattle.vms_text.specs.declared.acts.Line.{Line}
use Rattle.vms_text.specs.Common.{and_then}
use Rattle.vms_line.specs.declared.causes.LineCause.{LineCause}
use Rattle.vms_line.specs.Common.{IsLineOf, spelled_line}
use Rattle.vms_line.proofs.Common.{read_line-known}
use Rattle.vms_script.specs.Common.{allowed}
use Rattle.vms_script.proofs.judges.LineJudge.judge.Goals as goal

pub decide-requires : goal.decide-requires
decide-requires c =
    let header = c.args.header.now in
    record {
      header = header;
      lines = c.requires.judge.lines;
      is_header = c.requires.header;
      is_line =
          IfOk-at_ok (IsLineOf header) c.in-Some.ensures.spelled.read
          (read_line-known header c.requires.header c.args.line.now);
      stands = c.requires.judge.stands;
    }

pub returns-in-Some-clause-said : goal.returns-in-Some-clause-said
returns-in-Some-clause-said c = λ lines stands.
    let header = c.args.header.now in
    let read = c.in-Some.ensures.spelled.read in
    let is_line = IfOk-at_ok (IsLineOf header) read (read_line-known header c.requires.header c.args.line.now) in
    let found = c.decide.ensures.answers.by header lines c.requires.header is_line stands in (
      found.0 ∙ sym (ap (λ (r : Result Line LineCause). and_then r (allowed header lines)) read),
      found.1,
    )

pub returns-in-Some-clause-spelled : goal.returns-in-Some-clause-spelled
returns-in-Some-clause-spelled c = by c.decide.result c.decide.ensures.same
  where
    by : (found : Result Line LineCause) → IfOk found (λ said. said ≡ c.in-Some.said)
        → IfOk found (λ line. spelled_line c.args.header.now line ≡ c.args.line.now ++ 10 ∷ [])
    by (Ok line) same = ap (spelled_line c.args.header.now) same ∙ c.in-Some.ensures.spelled.spelled
    by (Err cause) same = tt
