-- A line of a trace, the one that ends it, and one of a header.
use Rattle.std.proofs.Common.{refl, sym, ◌+◌, ◌∙◌}
use Rattle.vms_certifying.specs.declared.jobs.Work.TheVariants as works
use Rattle.vms_certifying.specs.JobStates.{made_by}
use Rattle.vms_certifying.proofs.JobLines.{SomeTrace-at_work, head-takes, history-takes, trace-takes}
use Rattle.vms_certifying.proofs.jobs.CertifyJob.take_within.Goals as goal

pub end_trace-requires : goal.end_trace-requires
end_trace-requires g c =
    SomeTrace-at_work g.J.HistoryJudge.rules g.J.HistoryJudge.Gathers g.J.HistoryJudge.Accepts c.args.self.now
    c.in-Trace.part c.requires.stands.0 c.requires.within c.in-Trace.is c.requires.stands.1

pub take_line-requires : goal.take_line-requires
take_line-requires g c =
    SomeTrace-at_work g.J.HistoryJudge.rules g.J.HistoryJudge.Gathers g.J.HistoryJudge.Accepts c.args.self.now
    c.in-Trace.part c.requires.stands.0 c.requires.within c.in-Trace.is c.requires.stands.1

pub returns-then-is_history_line : goal.returns-then-is_history_line
returns-then-is_history_line g c =
    history-takes g.J.HistoryJudge.rules g.J.HistoryJudge.Gathers g.J.HistoryJudge.Accepts c.args.self.now
    c.end_trace.new.self c.args.line.now c.args.out.now.items c.requires.within c.in-Trace.part c.in-Trace.is
    (sym c.is_history_line.ensures ∙ c.if-is_history_line.true) (made_by c.args.verdicts.now) c.end_trace.result
    c.end_trace.ensures.work c.end_trace.ensures.line c.end_trace.ensures.goes

pub returns-else-is_history_line : goal.returns-else-is_history_line
returns-else-is_history_line g c =
    let before = c.args.self.now in
    trace-takes g.J.HistoryJudge.rules g.J.HistoryJudge.Gathers g.J.HistoryJudge.Accepts before
    (record before { line = before.line + 1; work = works.Trace c.take_line.new.self }) c.args.line.now
    c.args.out.now.items c.args.out.now.items refl c.requires.within c.in-Trace.part c.take_line.new.self c.in-Trace.is
    refl (sym c.is_history_line.ensures ∙ c.if-is_history_line.false) (made_by c.args.verdicts.now) c.take_line.result
    c.take_line.ensures

pub returns-in_default : goal.returns-in_default
returns-in_default g c =
    head-takes g.J.HistoryJudge.rules g.J.HistoryJudge.Gathers g.J.HistoryJudge.Accepts c.args.self.now
    c.take_header_line.new.self c.args.line.now c.args.out.now.items c.take_header_line.new.out.items c.requires.within
    (made_by c.args.verdicts.now) c.take_header_line.result c.in_default.not-Trace c.in_default.not-Written
    c.take_header_line.ensures.work c.take_header_line.ensures.line
