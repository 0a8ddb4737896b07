use Rattle.std.proofs.Common.{◌≡◌, sym, ap, ◌∙◌, Ok, Result}
use Rattle.std.proofs.lemmas.Result.{IfOk-at_ok}
use Rattle.vms_text.specs.declared.acts.Line.{Line}
use Rattle.vms_line.specs.declared.causes.LineCause.{LineCause}
use Rattle.vms_line.specs.Common.{read_line, IsLineOf}
use Rattle.vms_text.specs.Common.{and_then}
use Rattle.vms_line.proofs.Common.{read_line-known}
use Rattle.vms_script.specs.Common.{allowed}
use Rattle.vms_script.proofs.judges.LineJudge.judge_any.Goals as goal

pub decide-requires : goal.decide-requires
decide-requires c =
    let header = c.args.header.now in
    let read : read_line header c.args.line.now ≡ Ok c.in_ok-said.said = sym c.parse_line.ensures ∙ c.in_ok-said.was in
    record {
      header = header;
      lines = c.requires.judge.lines;
      is_header = c.requires.header;
      is_line = IfOk-at_ok (IsLineOf header) read (read_line-known header c.requires.header c.args.line.now);
      stands = c.requires.judge.stands;
    }

pub returns : goal.returns
returns c = λ lines stands.
    let header = c.args.header.now in
    let read : read_line header c.args.line.now ≡ Ok c.in_ok-said.said = sym c.parse_line.ensures ∙ c.in_ok-said.was in
    let is_line = IfOk-at_ok (IsLineOf header) read (read_line-known header c.requires.header c.args.line.now) in
    let found = c.decide.ensures.answers.by header lines c.requires.header is_line stands in (
      found.0 ∙ sym (ap (λ (r : Result Line LineCause). and_then r (allowed header lines)) read),
      found.1,
    )
