-- A line of a written history has one verdict, and so has the end of the input: the same text is certified, or refused,
-- in one way.
use Rattle.std.proofs.Common.{◌≡◌, ◌∙◌, ℕ, suc, nat_lt, Bool, true, false, List, [], ◌∷◌, ◌++◌, Option, Some, None}
use Rattle.std.proofs.Common.{refl, length, sym, ap, ap₂, subst}
use Rattle.std.specs.Prelude.{Ok, Err, Result, if◌then◌else◌, map, option_and_then}
use Rattle.vms_certifying.specs.Answers.{SaysCertified}
use Rattle.vms_certifying.specs.Certifying.{AllowsLastVerdict, AllowsVerdict, CertifyState, MayJudge, MayJudgeAll}
use Rattle.vms_certifying.specs.Certifying.{after_head, certifying, segments_in}
use Rattle.vms_certifying.specs.Certifying.CertifyState.{Heading, Trace, Written}
use Rattle.vms_certifying.specs.HistoryLines.{is_history_line}
use Rattle.vms_certifying.specs.HistoryRules.{HistoryRules}
use Rattle.vms_certifying.specs.JobStates.{shown_nothing}
use Rattle.vms_certifying.specs.declared.verdicts.Verdict.{Verdict}
use Rattle.vms_certifying.specs.declared.verdicts.Verdict.TheVariants.{Refused, Taken, Whole}
use Rattle.vms_command.specs.Common.{halted_at, most_lines, refuses}
use Rattle.vms_core.specs.Pages.{History}
use Rattle.vms_header.specs.Common.{Ends, Goes, HeadStep, Stage, head_line, header_from, on_step, read_header}
use Rattle.vms_header.specs.declared.causes.HeaderCause.{HeaderCause}
use Rattle.vms_history_checks.specs.Accepts.{IsLineFault, events_in}
use Rattle.vms_history_checks.specs.Bounds.{MayStandInTurn}
use Rattle.vms_history_checks.specs.Leads.{BeginsHistory}
use Rattle.vms_history_checks.specs.Said.{with_lines, with_said}
use Rattle.vms_history_judge.specs.WrittenRules.{lists_of, written_rules}
use Rattle.vms_phase_checks.specs.declared.faults.EventCause.{EventCause}
use Rattle.vms_script.proofs.Common.{SegmentsMayStand-holds}
use Rattle.vms_stream.specs.Common.{reading_of}
use Rattle.vms_stream.specs.declared.statuses.Status.TheVariants as statuses
use Rattle.vms_text.specs.declared.acts.Line.TheVariants as lines_said
use Rattle.vms_world.specs.Common.{AreSegments, Between, Header, IsHeader, Phase, Segment, Start, ZoneSize, first_start}
use Rattle.vms_world.specs.Common.{line_of, start_at_end, start_past}
use Rattle.vms_written_lines.specs.Lines.{read_line}
use Rattle.vms_written_lines.specs.declared.lines.WrittenLine.{WrittenLine}
use Rattle.vms_tool.proofs.OneList.{HasOneOutcome}
use Rattle.vms_tool.proofs.TakenTexts.{IsTakenOf-consumed}
use Rattle.vms_tool.proofs.TextOutcomes.{said-once}
use Rattle.vms_tool.specs.Common.{HasOneOutputOfText}

-- segments that may stand there may do so in turn
in-turn : (header : Header) (start : Start) (segments : List Segment) → AreSegments header start segments
    → MayStandInTurn header start segments
in-turn header start [] are = tt
in-turn header start (Phase items ∷ segments) are =
    (are.0.0, are.0.1, in-turn header (start_at_end start (map line_of items)) segments are.1)
in-turn header start (Between number b ∷ segments) are =
    (are.0.0, are.0.1, in-turn header (start_past (lines_said.Boundary b) start) segments are.1)

-- the lists that lines say, where the last line says more
then-nothing : (found : Option (List History)) → option_and_then (with_lines []) found ≡ found
then-nothing None = refl
then-nothing (Some hs) = refl

lists-push : (read : List ℕ → Option WrittenLine) (lines : List (List ℕ)) (line : List ℕ) (older : List History)
    → with_lines (map read (lines ++ line ∷ [])) older
    ≡ option_and_then (with_said (read line)) (with_lines (map read lines) older)
lists-push read [] line older = then-nothing (with_said (read line) older)
lists-push read (first ∷ lines) line older =
    by (with_said (read first) older) (λ next. lists-push read lines line next)
  where
    by : (found : Option (List History)) → ((next : List History) → with_lines (map read (lines ++ line ∷ [])) next
        ≡ option_and_then (with_said (read line)) (with_lines (map read lines) next))
        → option_and_then (with_lines (map read (lines ++ line ∷ []))) found
        ≡ option_and_then (with_said (read line)) (option_and_then (with_lines (map read lines)) found)
    by None again = refl
    by (Some next) again = again next

-- before these lines the command stands at the header, which is valid if they have one, or below a valid one
abbrev pub HasValidHeader : CertifyState → List (List ℕ) → Type 0
HasValidHeader (Heading n stage) lines =
    (header : Header) (count : ℕ) → header_from n stage lines ≡ Ok (header, count) → IsHeader header
HasValidHeader (Trace header first texts) lines = IsHeader header
HasValidHeader (Written header first texts written) lines = IsHeader header

module _ (pressure normal : ZoneSize → ℕ → ℕ → Type 0)
    (headers : (lines : List (List ℕ)) (header : Header) (count : ℕ) → read_header lines ≡ Ok (header, count)
    → IsHeader header)
    (cause_once : (header : Header) (segments : List Segment) (hs : List History) (said : Option WrittenLine)
    (one other : EventCause) → IsHeader header → MayStandInTurn header first_start segments
    → IsLineFault pressure normal header segments hs said one
    → IsLineFault pressure normal header segments hs said other → one ≡ other)
    (never_both : (header : Header) (segments : List Segment) (hs next : List History) (said : Option WrittenLine)
    (cause : EventCause) → IsHeader header → MayStandInTurn header first_start segments
    → with_said said hs ≡ Some next → BeginsHistory header pressure normal segments next
    → ¬ IsLineFault pressure normal header segments hs said cause) where
  abbrev rules : HistoryRules
  rules = written_rules pressure normal

  -- past a line of the header, if it doesn't stop the command
  past_head : (n : ℕ) (stage : Stage) (line : List ℕ) (lines : List (List ℕ)) (read : Result HeadStep HeaderCause)
      → head_line stage line ≡ read → HasValidHeader (Heading n stage) (line ∷ lines) → halted_at n (refuses read) ≡ None
      → HasValidHeader (after_head n stage read) lines
  past_head n stage line lines (Ok (Goes next)) is here open_line = λ header count same.
      here header count
      (ap (λ (r : Result HeadStep HeaderCause). on_step n r (λ later. header_from (suc n) later lines)) is ∙ same)
  past_head n stage line lines (Ok (Ends draft)) is here open_line =
      here _ n (ap (λ (r : Result HeadStep HeaderCause). on_step n r (λ later. header_from (suc n) later lines)) is)
  past_head n stage line lines (Err cause) is here open_line = absurd (by (nat_lt most_lines n) open_line)
    where
      by : (over : Bool) → (if over then Some statuses.TooLong else Some statuses.Header) ≡ None → ⊥
      by true none = cc
      by false none = cc

  past_trace : (header : Header) (first : ℕ) (texts : List (List ℕ)) (line : List ℕ) (lines : List (List ℕ))
      (ends : Bool) → IsHeader header
      → HasValidHeader (if ends then Written header first texts [] else Trace header first (texts ++ line ∷ [])) lines
  past_trace header first texts line lines true valid = valid
  past_trace header first texts line lines false valid = valid

  past_line : (s : CertifyState) (line : List ℕ) (lines : List (List ℕ)) (given : Option Verdict)
      → HasValidHeader s (line ∷ lines) → (certifying rules).halts s line given ≡ None
      → HasValidHeader ((certifying rules).next s line given) lines
  past_line (Heading n stage) line lines given here open_line =
      past_head n stage line lines (head_line stage line) refl here open_line
  past_line (Trace header first texts) line lines given here open_line =
      past_trace header first texts line lines (is_history_line line) here
  past_line (Written header first texts written) line lines given here open_line = here

  same-lists : (hs other : List History) (found : Option (List History)) → found ≡ Some hs → found ≡ Some other
      → hs ≡ other
  same-lists hs other found one two = let both : Some hs ≡ Some other = sym one ∙ two in cc

  -- of one line of a history
  module _ (header : Header) (valid : IsHeader header) (first : ℕ) (texts written : List (List ℕ)) (line : List ℕ)
    where
      abbrev parts : List Segment
      parts = segments_in header first texts

      stand : MayStandInTurn header first_start parts
      stand = in-turn header first_start parts (SegmentsMayStand-holds header first texts valid)

      -- no line that is at fault is taken
      taken-never : (cause : EventCause) → rules.Begins header parts (written ++ line ∷ [])
          → rules.IsFault header parts written line cause → ⊥
      taken-never cause (next, says, begins) (hs, above, fault) =
          never_both header parts hs next (read_line header.layout line) cause valid stand
          (sym (ap (option_and_then (with_said (read_line header.layout line))) above)
          ∙ sym (lists-push (read_line header.layout) written line []) ∙ says) begins fault

      one-cause : (cause other : EventCause) → rules.IsFault header parts written line cause
          → rules.IsFault header parts written line other → cause ≡ other
      one-cause cause other (hs, above, fault) (hs', above', fault') =
          cause_once header parts hs (read_line header.layout line) cause other valid stand fault
          (subst (λ (ls : List History). IsLineFault pressure normal header parts ls (read_line header.layout line)
          other) (same-lists hs' hs (lists_of header written) above' above) fault')

      one-verdict : (one other : Verdict) → MayJudge rules header parts written line one
          → MayJudge rules header parts written line other → one ≡ other
      one-verdict Taken Taken may may' = refl
      one-verdict Taken (Refused cause) may may' = absurd (taken-never cause may may')
      one-verdict (Refused cause) Taken may may' = absurd (taken-never cause may' may)
      one-verdict (Refused cause) (Refused other) may may' =
          ap (λ (c : EventCause). Refused c) (one-cause cause other may may')
      one-verdict (Whole phases events) other may may' = absurd may
      one-verdict one (Whole phases events) may may' = absurd may'

  -- and of a whole history, or one that is cut off
  one-last : (header : Header) (segments : List Segment) (written : List (List ℕ)) (one other : Verdict)
      → MayJudgeAll rules header segments written one → MayJudgeAll rules header segments written other → one ≡ other
  one-last header segments written (Refused cause) (Refused other) may may' =
      ap (λ (c : EventCause). Refused c) (may.0 ∙ sym may'.0)
  one-last header segments written (Refused cause) (Whole phases events) may may' = absurd (may.1 phases events may')
  one-last header segments written (Whole phases events) (Refused cause) may may' = absurd (may'.1 phases events may)
  one-last header segments written (Whole phases events) (Whole phases' events') may may' =
      let same : may.0 ≡ may'.0 = same-lists may.0 may'.0 (lists_of header written) may.1 may'.1 in
      ap₂ (λ (p e : ℕ). Whole p e) (may.3 ∙ ap (λ (hs : List History). length hs) same ∙ sym may'.3)
      (may.4 ∙ ap events_in same ∙ sym may'.4)
  one-last header segments written Taken other may may' = absurd may
  one-last header segments written one Taken may may' = absurd may'

  one-of_line : (s : CertifyState) (line : List ℕ) (lines : List (List ℕ)) (one other : Verdict)
      → HasValidHeader s (line ∷ lines) → AllowsVerdict rules s line one → AllowsVerdict rules s line other → one ≡ other
  one-of_line (Written header first texts written) line lines one other here may may' =
      one-verdict header here first texts written line one other may may'
  one-of_line (Heading n stage) line lines one other here may may' = absurd may
  one-of_line (Trace header first texts) line lines one other here may may' = absurd may

  one-of_end : (s : CertifyState) (one other : Verdict) → HasValidHeader s [] → AllowsLastVerdict rules s one
      → AllowsLastVerdict rules s other → one ≡ other
  one-of_end (Heading n stage) one other here may may' = absurd may
  one-of_end (Trace header first texts) one other here may may' = may ∙ sym may'
  one-of_end (Written header first texts written) one other here may may' =
      one-last header (segments_in header first texts) written one other may may'

  -- a certifying command has one verdict at each place
  verdict_once : HasOneOutcome (certifying rules) HasValidHeader
  verdict_once = record {
    begins = headers;
    goes_on = past_line;
    once = one-of_line;
    once_last = one-of_end;
  }

  module _ {S T : Type 0} (left : S → Option (List ℕ)) (calls : S → ℕ) (left' : T → Option (List ℕ))
      (calls' : T → ℕ) where
    pub certify_text-once : HasOneOutputOfText left calls left' calls' (SaysCertified rules)
    certify_text-once status status' text taken taken' written written' src after src' after' decided decided' had had'
        consumes consumes' one other =
        said-once (certifying rules) shown_nothing HasValidHeader verdict_once text taken taken' written written' status
        status' (reading_of left calls src after) (reading_of left' calls' src' after') one.verdicts other.verdicts
        (IsTakenOf-consumed (left src) (left after) text taken had consumes)
        (IsTakenOf-consumed (left' src') (left' after') text taken' had' consumes') decided decided' one.line_by_line
        other.line_by_line
