-- A line that is taken, one at fault, and want of memory.
use Rattle.std.proofs.Common.{ap, refl, subst, sym}
use Rattle.std.proofs.lemmas.Result.{err_from_is_err_and}
use Rattle.vms_certifying.specs.declared.errors.JudgeError.{JudgeError}
use Rattle.vms_certifying.specs.Certifying.{segments_in}
use Rattle.vms_certifying.specs.Judging.{IsJudgeError}
use Rattle.vms_certifying.specs.Verdicts.{verdicts_of}
use Rattle.vms_certifying.proofs.JobLines.{written-failed, written-goes, written-refused}
use Rattle.vms_certifying.proofs.written_parts.WrittenPart.take_line.Goals as goal

pub note_due-requires-clause-header : goal.note_due-requires-clause-header
note_due-requires-clause-header g c = c.requires.stands.1.keeps.header

pub note_due-requires-clause-stands : goal.note_due-requires-clause-stands
note_due-requires-clause-stands g c =
    let here = c.requires.stands.1 in
    let header = c.args.self.now.header in
    let segments = segments_in header here.first here.texts in (
      segments,
      here.lines,
      subst (λ history. g.J.HistoryJudge.Accepts header segments here.lines history)
          (sym c.in-Err-Fault.ensures.same) here.keeps.accepts,
    )

pub returns-in_ok-add-in-Ok : goal.returns-in_ok-add-in-Ok
returns-in_ok-add-in-Ok g c =
    let part = c.args.self.now in
    let part' = record part { history = c.step.new.self } in
    let out = c.args.out.now.items in
    written-goes g.J.HistoryJudge.rules g.J.HistoryJudge.Gathers g.J.HistoryJudge.Accepts c.args.number part part'
    c.args.line.now out out c.args.verdicts.now c.add.new.self c.requires.within c.in_ok-add-in-Ok.ensures refl refl
    c.in-Ok.ensures.judged

pub returns-in_err-add-in-Ok : goal.returns-in_err-add-in-Ok
returns-in_err-add-in-Ok g c =
    let part = c.args.self.now in
    let part' = record part { history = c.step.new.self } in
    let out = c.args.out.now.items in
    let p = err_from_is_err_and c.from_residual.result c.from_residual.ensures.1 in
    rw p.1 (written-failed g.J.HistoryJudge.rules g.J.HistoryJudge.Gathers g.J.HistoryJudge.Accepts c.args.number part
    part' c.args.line.now out out c.args.verdicts.now c.add.new.self c.requires.within p.0
    (ap verdicts_of c.in_err-add-in-Ok.ensures))

pub returns-in_ok-add-in-Err-Fault : goal.returns-in_ok-add-in-Err-Fault
returns-in_ok-add-in-Err-Fault g c =
    let part = c.args.self.now in
    let part' = record part { history = c.step.new.self } in
    let rules = g.J.HistoryJudge.rules in
    written-refused rules g.J.HistoryJudge.Gathers g.J.HistoryJudge.Accepts c.args.number part part'
    c.args.line.now c.args.out.now.items c.write_fault_line.new.out.items c.args.verdicts.now
    c.add-in-Err-Fault.new.self c.requires.within c.in-Err-Fault.cause c.in_ok-add-in-Err-Fault.ensures
    c.in_ok-write_fault_line-in-Err-Fault.ensures.ok
    (λ segments lines accepts. subst (λ (error : JudgeError). IsJudgeError rules part.header segments lines
    c.args.line.now error) c.in-Err-Fault.field-0-is (c.in-Err-Fault.ensures.judged segments lines accepts))

pub returns-in_err-write_fault_line-in-Err-Fault : goal.returns-in_err-write_fault_line-in-Err-Fault
returns-in_err-write_fault_line-in-Err-Fault g c =
    let part = c.args.self.now in
    let part' = record part { history = c.step.new.self } in
    let p = err_from_is_err_and c.from_residual-in_err-write_fault_line-in-Err-Fault.result
    c.from_residual-in_err-write_fault_line-in-Err-Fault.ensures.1 in
    rw p.1 (written-failed g.J.HistoryJudge.rules g.J.HistoryJudge.Gathers g.J.HistoryJudge.Accepts c.args.number part
    part' c.args.line.now c.args.out.now.items c.write_fault_line.new.out.items c.args.verdicts.now
    c.args.verdicts.now c.requires.within p.0 refl)

pub returns-in_err-add-in-Err-Fault : goal.returns-in_err-add-in-Err-Fault
returns-in_err-add-in-Err-Fault g c =
    let part = c.args.self.now in
    let part' = record part { history = c.step.new.self } in
    let p = err_from_is_err_and c.from_residual-in_err-add-in-Err-Fault.result
    c.from_residual-in_err-add-in-Err-Fault.ensures.1 in
    rw p.1 (written-failed g.J.HistoryJudge.rules g.J.HistoryJudge.Gathers g.J.HistoryJudge.Accepts c.args.number part
    part' c.args.line.now c.args.out.now.items c.write_fault_line.new.out.items c.args.verdicts.now
    c.add-in-Err-Fault.new.self c.requires.within p.0 (ap verdicts_of c.in_err-add-in-Err-Fault.ensures))

pub returns-in-Err-Memory : goal.returns-in-Err-Memory
returns-in-Err-Memory g c =
    let part = c.args.self.now in
    let part' = record part { history = c.step.new.self } in
    let out = c.args.out.now.items in
    written-failed g.J.HistoryJudge.rules g.J.HistoryJudge.Gathers g.J.HistoryJudge.Accepts c.args.number part
    part' c.args.line.now out out c.args.verdicts.now c.args.verdicts.now c.requires.within _ refl
