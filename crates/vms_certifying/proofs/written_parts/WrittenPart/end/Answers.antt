-- A whole history, one that isn't, and want of memory.
use Rattle.std.proofs.Common.{ℕ, [], ◌++◌, ap, refl, ◌∙◌}
use Rattle.std.proofs.lemmas.Result.{err_from_is_err_and}
use Rattle.vms_command.specs.Common.{status_at_end}
use Rattle.vms_stream.specs.declared.statuses.Status.TheVariants as statuses
use Rattle.vms_phase_checks.specs.declared.faults.EventCause.TheVariants.{Incomplete}
use Rattle.vms_certifying.specs.declared.verdicts.Verdict.TheVariants.{Refused, Whole}
use Rattle.vms_certifying.specs.Certifying.{segments_in}
use Rattle.vms_certifying.specs.Printing.{fault_line}
use Rattle.vms_certifying.specs.Verdicts.{verdicts_of}
use Rattle.vms_certifying.proofs.JobLines.{written-end_failed, written-ends}
use Rattle.vms_certifying.proofs.written_parts.WrittenPart.end.Goals as goal

pub finish-requires-clause-stands : goal.finish-requires-clause-stands
finish-requires-clause-stands g c =
    let here = c.requires.1 in (
      segments_in c.args.self.now.header here.first here.texts,
      here.lines,
      here.keeps.accepts,
    )

pub note_due-requires-clause-header : goal.note_due-requires-clause-header
note_due-requires-clause-header g c = c.requires.1.keeps.header

pub note_due-requires-clause-stands : goal.note_due-requires-clause-stands
note_due-requires-clause-stands g c =
    let here = c.requires.1 in (
      segments_in c.args.self.now.header here.first here.texts,
      here.lines,
      here.keeps.accepts,
    )

pub returns-in_ok-add-in-Some : goal.returns-in_ok-add-in-Some
returns-in_ok-add-in-Some g c =
    let part = c.args.self.now in
    written-ends g.J.HistoryJudge.rules g.J.HistoryJudge.Gathers g.J.HistoryJudge.Accepts c.args.number part part []
    c.args.out.now.items c.write_certified_line.new.out.items c.args.verdicts.now c.add.new.self
    (Whole c.in-Some.field-0.phases c.in-Some.field-0.events) c.in_ok-add-in-Some.ensures c.status_at_end.result
    (λ first texts lines keeps. c.in-Some.ensures (segments_in part.header first texts) lines keeps.accepts)
    (λ first texts lines keeps. c.status_at_end.ensures ∙ ap status_at_end keeps.refused)
    (λ first texts lines number. c.in_ok-write_certified_line-in-Some.ensures.ok)

pub returns-in_err-write_certified_line-in-Some : goal.returns-in_err-write_certified_line-in-Some
returns-in_err-write_certified_line-in-Some g c =
    let part = c.args.self.now in
    let p = err_from_is_err_and c.from_residual.result c.from_residual.ensures.1 in
    rw p.1 (written-end_failed g.J.HistoryJudge.rules g.J.HistoryJudge.Gathers g.J.HistoryJudge.Accepts c.args.number
    part part [] c.args.out.now.items c.write_certified_line.new.out.items c.args.verdicts.now c.args.verdicts.now p.0
    refl)

pub returns-in_err-add-in-Some : goal.returns-in_err-add-in-Some
returns-in_err-add-in-Some g c =
    let part = c.args.self.now in
    let p = err_from_is_err_and c.from_residual-in_err-add-in-Some.result
    c.from_residual-in_err-add-in-Some.ensures.1 in
    rw p.1 (written-end_failed g.J.HistoryJudge.rules g.J.HistoryJudge.Gathers g.J.HistoryJudge.Accepts c.args.number
    part part [] c.args.out.now.items c.write_certified_line.new.out.items c.args.verdicts.now c.add.new.self p.0
    (ap verdicts_of c.in_err-add-in-Some.ensures))

pub returns-in_ok-add-in-None : goal.returns-in_ok-add-in-None
returns-in_ok-add-in-None g c =
    let part = c.args.self.now in
    written-ends g.J.HistoryJudge.rules g.J.HistoryJudge.Gathers g.J.HistoryJudge.Accepts c.args.number part part []
    c.args.out.now.items c.write_fault_line.new.out.items c.args.verdicts.now c.add-in-None.new.self
    (Refused Incomplete) c.in_ok-add-in-None.ensures statuses.NotCertified
    (λ first texts lines keeps. (refl, c.in-None.ensures (segments_in part.header first texts) lines keeps.accepts))
    (λ first texts lines keeps. refl)
    (λ first texts lines number. c.in_ok-write_fault_line-in-None.ensures.ok
    ∙ ap (λ (n : ℕ). c.args.out.now.items ++ fault_line n Incomplete) number)

pub returns-in_err-write_fault_line-in-None : goal.returns-in_err-write_fault_line-in-None
returns-in_err-write_fault_line-in-None g c =
    let part = c.args.self.now in
    let p = err_from_is_err_and c.from_residual-in_err-write_fault_line-in-None.result
    c.from_residual-in_err-write_fault_line-in-None.ensures.1 in
    rw p.1 (written-end_failed g.J.HistoryJudge.rules g.J.HistoryJudge.Gathers g.J.HistoryJudge.Accepts c.args.number
    part part [] c.args.out.now.items c.write_fault_line.new.out.items c.args.verdicts.now c.args.verdicts.now p.0
    refl)

pub returns-in_err-add-in-None : goal.returns-in_err-add-in-None
returns-in_err-add-in-None g c =
    let part = c.args.self.now in
    let p = err_from_is_err_and c.from_residual-in_err-add-in-None.result
    c.from_residual-in_err-add-in-None.ensures.1 in
    rw p.1 (written-end_failed g.J.HistoryJudge.rules g.J.HistoryJudge.Gathers g.J.HistoryJudge.Accepts c.args.number
    part part [] c.args.out.now.items c.write_fault_line.new.out.items c.args.verdicts.now c.add-in-None.new.self p.0
    (ap verdicts_of c.in_err-add-in-None.ensures))
