-- A line of the trace, by what is judged of it.
use Rattle.vms_certifying.specs.Certifying.{trace_above}
use Rattle.vms_certifying.proofs.KeptLines.{SomeLines-trace, takes-judged}
use Rattle.vms_certifying.proofs.trace_parts.TracePart.take_line.Goals as goal

pub take_judged-requires-clause-lines : goal.take_judged-requires-clause-lines
take_judged-requires-clause-lines g c =
    SomeLines-trace g.J.HistoryJudge.Gathers c.requires.0 c.requires.1 c.args.self.now c.requires.2 c.requires.3
    c.judge-said.new.self

pub take_judged-requires-clause-judged : goal.take_judged-requires-clause-judged
take_judged-requires-clause-judged g c =
    let above = trace_above c.args.self.now.header c.requires.1 in (
      above,
      (c.args.line.now, (c.judge-said.ensures.said above.lines c.requires.2.judges).0),
    )

pub returns : goal.returns
returns g c =
    takes-judged g.J.HistoryJudge.Gathers c.args.self.now c.take_judged.new.self c.args.line.now c.args.number
    c.judge-said.result.said c.judge-said.new.self c.take_judged.result c.judge-said.ensures.said c.take_judged.ensures
