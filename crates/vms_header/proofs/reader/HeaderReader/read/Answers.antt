-- The first eight words of a line give the step that the line gives, and the step's draft is in its ranges.
use Rattle.std.proofs.Common.{ℕ, ◌≡◌, ◌≤◌, ◌∙◌, List, Bool, Result, Ok, Err, false, take, Bor, length, map, ap, arith}
use Rattle.std.proofs.Common.{sym, subst}
use Rattle.std.proofs.lemmas.Result.{err_from_is_err_and}
use Rattle.vms_header.specs.declared.causes.HeaderCause.{HeaderCause}
use Rattle.vms_header.specs.declared.causes.ReadError.{ReadError}
use Rattle.vms_header.specs.declared.causes.ReadError.TheVariants.{Refused, Memory}
use Rattle.vms_header.specs.declared.drafts.HeadStep.{HeadStep as KeptStep}
use Rattle.vms_header.specs.Common.{IsStage, IsHeadStep, Stage, HeadStep, head_line, stage_line, Goes, Ends, StepsTo}
use Rattle.vms_header.specs.Common.{IsWritable, IsSameRead, draft_of, stage_of, step_of}
use Rattle.vms_text.specs.Common.{words_of, is_clean, is_ignored}
use Rattle.vms_header.proofs.DraftLines.{head_line-keeps}
use Rattle.vms_header.proofs.EightWords.{head_line-words}
use Rattle.vms_header.proofs.Written.{header_of-writable}
use Rattle.vms_header.proofs.reader.HeaderReader.read.Goals as goal

-- what the words gave is what the line gives
read_as : (self inside : Stage) (line : List ℕ) (clean ignored : Bool) (items seen : List (Bor (List ℕ)))
    → inside ≡ self → length line ≤ 200 → ignored ≡ is_ignored line → ignored ≡ false → clean ≡ is_clean line
    → seen ≡ items
    → map (λ word. word.now) items ≡ take 8 (words_of line)
    → head_line self line ≡ stage_line inside clean (map (λ word. word.now) seen)
read_as self inside line clean ignored items seen is short read other clean_is same words =
    head_line-words self line clean (map (λ word. word.now) seen) short (sym read ∙ other) clean_is
    (ap (map (λ word. word.now)) same ∙ words)
    ∙ ap (λ stage. stage_line stage clean (map (λ word. word.now) seen)) (sym is)

StepsTo-refused : (answer : Result HeadStep HeaderCause) (error : ReadError) → IsSameRead step_of answer (Err error)
    → StepsTo answer (Err error)
StepsTo-refused answer (Refused cause) refused = refused
StepsTo-refused answer Memory refused = tt

pub returns-in_err-stage-clause-step : goal.returns-in_err-stage-clause-step
returns-in_err-stage-clause-step c =
    let read = read_as c.args.self (stage_of c.self.inside.stage) c.args.line.now c.is_clean.result c.is_ignored.result
    c.cut_words-words.result.items c.as_slice.result.now c.self.view_is
    (omega arith) c.is_ignored.ensures c.if-is_ignored.false c.is_clean.ensures c.as_slice.ensures.value
    c.cut_words-words.ensures in
    let p = err_from_is_err_and c.from_residual.result c.from_residual.ensures.1 in
    let error = c.in_err-stage.field-0.0 in
    let refused = subst (λ answer. IsSameRead step_of answer (Err error)) (sym read) c.in_err-stage.ensures in
    rw (p.1, p.2) (StepsTo-refused (head_line c.args.self c.args.line.now) error refused)

-- what a line makes is as it should be
step-valid : (self inside : Stage) (line : List ℕ) (answer : Result HeadStep HeaderCause) (kept : KeptStep)
    (step : HeadStep) → IsStage inside → inside ≡ self → head_line self line ≡ answer → answer ≡ Ok (step_of kept)
    → step_of kept ≡ step → IsHeadStep step
step-valid self inside line answer kept step valid is read made kept_is =
    head_line-keeps self line step (subst IsStage is valid) (read ∙ made ∙ ap Ok kept_is)

pub invariant_of-result : goal.invariant_of-result
invariant_of-result c =
    let read = read_as c.args.self (stage_of c.self.inside.stage) c.args.line.now c.is_clean.result c.is_ignored.result
    c.cut_words-words.result.items c.as_slice.result.now c.self.view_is
    (omega arith) c.is_ignored.ensures c.if-is_ignored.false c.is_clean.ensures c.as_slice.ensures.value
    c.cut_words-words.ensures in
    step-valid c.args.self (stage_of c.self.inside.stage) c.args.line.now _ c.in_ok-stage.field-0
    (Goes (stage_of c.in-Goes.stage)) c.self.invariant c.self.view_is read c.in_ok-stage.ensures
    (ap step_of c.in-Goes.is)

pub make_header-requires-clause-draft : goal.make_header-requires-clause-draft
make_header-requires-clause-draft c =
    let read = read_as c.args.self (stage_of c.self.inside.stage) c.args.line.now c.is_clean.result c.is_ignored.result
    c.cut_words-words.result.items c.as_slice.result.now c.self.view_is
    (omega arith) c.is_ignored.ensures c.if-is_ignored.false c.is_clean.ensures c.as_slice.ensures.value
    c.cut_words-words.ensures in
    (step-valid c.args.self (stage_of c.self.inside.stage) c.args.line.now _ c.in_ok-stage.field-0
    (Ends (draft_of c.in-Ends.draft)) c.self.invariant c.self.view_is read c.in_ok-stage.ensures
    (ap step_of c.in-Ends.is)).0

pub make_header-requires-clause-some : goal.make_header-requires-clause-some
make_header-requires-clause-some c =
    let read = read_as c.args.self (stage_of c.self.inside.stage) c.args.line.now c.is_clean.result c.is_ignored.result
    c.cut_words-words.result.items c.as_slice.result.now c.self.view_is
    (omega arith) c.is_ignored.ensures c.if-is_ignored.false c.is_clean.ensures c.as_slice.ensures.value
    c.cut_words-words.ensures in
    (step-valid c.args.self (stage_of c.self.inside.stage) c.args.line.now _ c.in_ok-stage.field-0
    (Ends (draft_of c.in-Ends.draft)) c.self.invariant c.self.view_is read c.in_ok-stage.ensures
    (ap step_of c.in-Ends.is)).1

pub returns-in-Goes-clause-step : goal.returns-in-Goes-clause-step
returns-in-Goes-clause-step c =
    let read = read_as c.args.self (stage_of c.self.inside.stage) c.args.line.now c.is_clean.result c.is_ignored.result
    c.cut_words-words.result.items c.as_slice.result.now c.self.view_is
    (omega arith) c.is_ignored.ensures c.if-is_ignored.false c.is_clean.ensures c.as_slice.ensures.value
    c.cut_words-words.ensures in
    read ∙ c.in_ok-stage.ensures ∙ ap (λ kept. Ok (step_of kept)) c.in-Goes.is

pub returns-in_ok-make_header-in-Ends-clause-step : goal.returns-in_ok-make_header-in-Ends-clause-step
returns-in_ok-make_header-in-Ends-clause-step c =
    let read = read_as c.args.self (stage_of c.self.inside.stage) c.args.line.now c.is_clean.result c.is_ignored.result
    c.cut_words-words.result.items c.as_slice.result.now c.self.view_is
    (omega arith) c.is_ignored.ensures c.if-is_ignored.false c.is_clean.ensures c.as_slice.ensures.value
    c.cut_words-words.ensures in (
      draft_of c.in-Ends.draft,
      read ∙ c.in_ok-stage.ensures ∙ ap (λ kept. Ok (step_of kept)) c.in-Ends.is,
      c.in_ok-make_header-in-Ends.ensures,
    )

pub returns-in_ok-make_header-in-Ends-clause-writable : goal.returns-in_ok-make_header-in-Ends-clause-writable
returns-in_ok-make_header-in-Ends-clause-writable c =
    let read = read_as c.args.self (stage_of c.self.inside.stage) c.args.line.now c.is_clean.result c.is_ignored.result
    c.cut_words-words.result.items c.as_slice.result.now c.self.view_is
    (omega arith) c.is_ignored.ensures c.if-is_ignored.false c.is_clean.ensures c.as_slice.ensures.value
    c.cut_words-words.ensures in
    let valid = step-valid c.args.self (stage_of c.self.inside.stage) c.args.line.now _ c.in_ok-stage.field-0
    (Ends (draft_of c.in-Ends.draft)) c.self.invariant c.self.view_is read c.in_ok-stage.ensures
    (ap step_of c.in-Ends.is) in
    subst IsWritable (sym c.in_ok-make_header-in-Ends.ensures)
    (header_of-writable (draft_of c.in-Ends.draft) valid.0 valid.1)
