-- A line that was read is decided by the lines above that count.
use Rattle.std.proofs.Common.{ap, sym, ◌∙◌}
use Rattle.std.proofs.lemmas.Result.{IfOk-at_ok, err_from_is_err_and}
use Rattle.vms_group_lines.specs.Common.{IsGroupLineOf, answered}
use Rattle.vms_group_lines.proofs.LinesKnown.{read_group_line-known}
use Rattle.vms_group_lines.proofs.Volumes.{judged_group-decided}
use Rattle.vms_group_lines.proofs.judges.GroupJudge.judge.Goals as goal

pub allow-requires-clause-line : goal.allow-requires-clause-line
allow-requires-clause-line c =
    IfOk-at_ok (IsGroupLineOf c.args.header.now) (sym c.read_line.ensures ∙ c.in_ok-said.was)
    (read_group_line-known c.args.header.now c.requires.header c.args.line.now)

pub returns-in_err-allow : goal.returns-in_err-allow
returns-in_err-allow c =
    let p = err_from_is_err_and c.from_residual-in_err-allow.result c.from_residual-in_err-allow.ensures.1 in
    rw (p.1, p.2) (λ lines stands. judged_group-decided c.args.header.now lines c.args.line.now c.in_ok-said.said
    c.allow.result _ c.allow.new.self (sym c.read_line.ensures ∙ c.in_ok-said.was)
    (ap (answered c.in_ok-said.said) c.in_err-allow.was) (c.allow.ensures lines stands))

pub returns : goal.returns
returns c = λ lines stands.
    judged_group-decided c.args.header.now lines c.args.line.now c.in_ok-said.said c.allow.result _ c.allow.new.self
    (sym c.read_line.ensures ∙ c.in_ok-said.was) (ap (answered c.in_ok-said.said) c.in_ok-allow.was)
    (c.allow.ensures lines stands)
