-- An input that ends in its header, in its trace, in its history, or past a line that stopped the command.
use Rattle.std.proofs.Common.{ap, refl, ◌∙◌, ◌++◌}
use Rattle.std.proofs.lemmas.Result.{err_from_is_err_and}
use Rattle.vms_header.specs.declared.causes.HeaderCause.{HeaderCause}
use Rattle.vms_command.specs.Common.{header_line}
use Rattle.vms_certifying.specs.JobStates.{made_by}
use Rattle.vms_certifying.specs.Verdicts.{verdicts_of}
use Rattle.vms_certifying.proofs.JobLines.{SomeWritten-at_work, end-failed, header-ends, history-ends, stopped-ends}
use Rattle.vms_certifying.proofs.JobLines.{trace-ends}
use Rattle.vms_certifying.proofs.jobs.CertifyJobJob.end.Goals as goal

pub end-requires : goal.end-requires
end-requires g c =
    SomeWritten-at_work g.J.HistoryJudge.rules g.J.HistoryJudge.Gathers g.J.HistoryJudge.Accepts c.args.self.now
    c.in-Written.part c.requires.0 c.in-Written.is c.requires.1

pub returns-in_err-write_header_line-in-Header : goal.returns-in_err-write_header_line-in-Header
returns-in_err-write_header_line-in-Header g c =
    let p = err_from_is_err_and c.from_residual.result c.from_residual.ensures.1 in
    rw p.1 (end-failed g.J.HistoryJudge.rules g.J.HistoryJudge.Gathers g.J.HistoryJudge.Accepts c.args.self.now _ _
    c.args.verdicts.now c.args.verdicts.now p.0 refl)

pub returns-in_ok-write_header_line-in-Header : goal.returns-in_ok-write_header_line-in-Header
returns-in_ok-write_header_line-in-Header g c =
    header-ends g.J.HistoryJudge.rules g.J.HistoryJudge.Gathers g.J.HistoryJudge.Accepts c.args.self.now
    c.args.out.now.items c.write_header_line.new.out.items c.in-Header.reader (made_by c.args.verdicts.now)
    c.in-Header.is
    (c.in_ok-write_header_line-in-Header.ensures.ok ∙ ap (λ (cause : HeaderCause). c.args.out.now.items
    ++ header_line (record { line = c.args.self.now.line; cause = cause })) c.missing.ensures)

pub returns-in_err-write_fault_line-in-Trace : goal.returns-in_err-write_fault_line-in-Trace
returns-in_err-write_fault_line-in-Trace g c =
    let p = err_from_is_err_and c.from_residual-in_err-write_fault_line-in-Trace.result
    c.from_residual-in_err-write_fault_line-in-Trace.ensures.1 in
    rw p.1 (end-failed g.J.HistoryJudge.rules g.J.HistoryJudge.Gathers g.J.HistoryJudge.Accepts c.args.self.now _ _
    c.args.verdicts.now c.args.verdicts.now p.0 refl)

pub returns-in_err-add-in-Trace : goal.returns-in_err-add-in-Trace
returns-in_err-add-in-Trace g c =
    let p = err_from_is_err_and c.from_residual-in_err-add-in-Trace.result
    c.from_residual-in_err-add-in-Trace.ensures.1 in
    rw p.1 (end-failed g.J.HistoryJudge.rules g.J.HistoryJudge.Gathers g.J.HistoryJudge.Accepts c.args.self.now _ _
    c.args.verdicts.now c.add.new.self p.0 (ap verdicts_of c.in_err-add-in-Trace.ensures))

pub returns-in_ok-add-in-Trace : goal.returns-in_ok-add-in-Trace
returns-in_ok-add-in-Trace g c =
    trace-ends g.J.HistoryJudge.rules g.J.HistoryJudge.Gathers g.J.HistoryJudge.Accepts c.args.self.now
    c.args.out.now.items c.write_fault_line.new.out.items c.in-Trace.field-0 c.args.verdicts.now c.add.new.self
    c.in-Trace.is c.in_ok-add-in-Trace.ensures c.in_ok-write_fault_line-in-Trace.ensures.ok

pub returns-in-Written : goal.returns-in-Written
returns-in-Written g c =
    history-ends g.J.HistoryJudge.rules g.J.HistoryJudge.Gathers g.J.HistoryJudge.Accepts c.args.self.now
    c.args.out.now.items c.end.new.out.items c.in-Written.part (made_by c.args.verdicts.now)
    (made_by c.end.new.verdicts) c.end.result c.in-Written.is c.end.ensures

pub returns-in-Stopped : goal.returns-in-Stopped
returns-in-Stopped g c =
    stopped-ends g.J.HistoryJudge.rules g.J.HistoryJudge.Gathers g.J.HistoryJudge.Accepts c.args.self.now
    c.args.out.now.items c.args.out.now.items (made_by c.args.verdicts.now) _ c.in-Stopped.is
