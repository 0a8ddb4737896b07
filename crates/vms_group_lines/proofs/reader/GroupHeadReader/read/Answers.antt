-- The first eight words give the step of the line, which keeps what is true of every stage.
use Rattle.std.proofs.Common.{ℕ, ◌≡◌, ◌≤◌, ◌∙◌, List, Bool, Result, Ok, Err, Bor, false, length, map, take, ap, arith}
use Rattle.std.proofs.Common.{sym, subst}
use Rattle.std.proofs.lemmas.Result.{IfOk-at_ok, err_from_is_err_and}
use Rattle.vms_text.specs.Common.{is_clean, is_ignored, words_of}
use Rattle.vms_group_lines.specs.declared.causes.GroupCause.{GroupCause}
use Rattle.vms_group_lines.specs.declared.causes.GroupReadError.{GroupReadError}
use Rattle.vms_group_lines.specs.declared.causes.GroupReadError.TheVariants.{Refused, Memory}
use Rattle.vms_group_lines.specs.declared.stages.GroupStage.{GroupStage}
use Rattle.vms_group_lines.specs.declared.stages.HeadStep.{HeadStep}
use Rattle.vms_group_lines.specs.Common.{IsGroupStage, IsHeadStep, IsRead, StepsTo, group_head_line, stage_line}
use Rattle.vms_group_lines.proofs.HeadersKept.{group_head_line-keeps}
use Rattle.vms_group_lines.proofs.HeadLines.{group_head_line-words}
use Rattle.vms_group_lines.proofs.reader.GroupHeadReader.read.Goals as goal

-- what the words gave is what the line gives
read_as : (self inside : GroupStage) (line : List ℕ) (clean ignored : Bool) (items seen : List (Bor (List ℕ)))
    → inside ≡ self → length line ≤ 200 → ignored ≡ is_ignored line → ignored ≡ false → clean ≡ is_clean line
    → seen ≡ items
    → map (λ word. word.now) items ≡ take 8 (words_of line)
    → group_head_line self line ≡ stage_line inside clean (map (λ word. word.now) seen)
read_as self inside line clean ignored items seen is short read other clean_is same words =
    group_head_line-words self line clean (map (λ word. word.now) seen) short (sym read ∙ other) clean_is
    (ap (map (λ word. word.now)) same ∙ words)
    ∙ ap (λ stage. stage_line stage clean (map (λ word. word.now) seen)) (sym is)

StepsTo-refused : (answer : Result HeadStep GroupCause) (error : GroupReadError) → IsRead answer (Err error)
    → StepsTo answer (Err error)
StepsTo-refused answer (Refused cause) refused = refused
StepsTo-refused answer Memory refused = tt

pub returns-in_err-stage-clause-step : goal.returns-in_err-stage-clause-step
returns-in_err-stage-clause-step c =
    let read = read_as c.args.self c.self.inside.stage c.args.line.now c.cut_line-clean.result c.is_ignored.result
    c.cut_line-clean.new.words.items c.as_slice.result.now c.self.view_is (omega arith) c.is_ignored.ensures
    c.if-is_ignored.false c.cut_line-clean.ensures.clean c.as_slice.ensures.value c.cut_line-clean.ensures.words in
    let p = err_from_is_err_and c.from_residual.result c.from_residual.ensures.1 in
    let error = c.in_err-stage.field-0.0 in
    let refused = subst (λ answer. IsRead answer (Err error)) (sym read) c.in_err-stage.ensures in
    rw (p.1, p.2) (StepsTo-refused (group_head_line c.args.self c.args.line.now) error refused)

pub invariant_of-result : goal.invariant_of-result
invariant_of-result c =
    let read = read_as c.args.self c.self.inside.stage c.args.line.now c.cut_line-clean.result c.is_ignored.result
    c.cut_line-clean.new.words.items c.as_slice.result.now c.self.view_is (omega arith) c.is_ignored.ensures
    c.if-is_ignored.false c.cut_line-clean.ensures.clean c.as_slice.ensures.value c.cut_line-clean.ensures.words in
    IfOk-at_ok IsHeadStep (read ∙ c.in_ok-stage.ensures ∙ ap Ok c.in-Goes.is)
    (group_head_line-keeps c.args.self c.args.line.now (subst IsGroupStage c.self.view_is c.self.invariant))

pub returns-in-Goes-clause-step : goal.returns-in-Goes-clause-step
returns-in-Goes-clause-step c =
    let read = read_as c.args.self c.self.inside.stage c.args.line.now c.cut_line-clean.result c.is_ignored.result
    c.cut_line-clean.new.words.items c.as_slice.result.now c.self.view_is (omega arith) c.is_ignored.ensures
    c.if-is_ignored.false c.cut_line-clean.ensures.clean c.as_slice.ensures.value c.cut_line-clean.ensures.words in
    read ∙ c.in_ok-stage.ensures ∙ ap Ok c.in-Goes.is

pub returns-in-Ends-clause-valid : goal.returns-in-Ends-clause-valid
returns-in-Ends-clause-valid c =
    let read = read_as c.args.self c.self.inside.stage c.args.line.now c.cut_line-clean.result c.is_ignored.result
    c.cut_line-clean.new.words.items c.as_slice.result.now c.self.view_is (omega arith) c.is_ignored.ensures
    c.if-is_ignored.false c.cut_line-clean.ensures.clean c.as_slice.ensures.value c.cut_line-clean.ensures.words in
    IfOk-at_ok IsHeadStep (read ∙ c.in_ok-stage.ensures ∙ ap Ok c.in-Ends.is)
    (group_head_line-keeps c.args.self c.args.line.now (subst IsGroupStage c.self.view_is c.self.invariant))
