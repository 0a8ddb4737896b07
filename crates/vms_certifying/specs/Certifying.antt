-- What the command says from line to line: through the header, the trace, and the history after it.
use Rattle.std.specs.Prelude.{◌≡◌, ℕ, suc, ◌+◌, nat_lt, Bool, true, false, not, if◌then◌else◌, List, [], ◌∷◌, ◌++◌}
use Rattle.std.specs.Prelude.{length, Option, Some, None, Result, Ok, Err}
use Rattle.vms_base.specs.declared.headers.Header.{Header}
use Rattle.vms_header.specs.declared.causes.HeaderCause.{HeaderCause}
use Rattle.vms_header.specs.Common.{header_of, Stage, HeadStep, head_line, missing, Opening, Goes, Ends}
use Rattle.vms_script.specs.Common.{Segment, judged}
use Rattle.vms_script.specs.Segments.{contents_of}
use Rattle.vms_stream.specs.Common.{MayEnd, MayHalt, PhasedBehavior}
use Rattle.vms_stream.specs.declared.statuses.Status.{Status}
use Rattle.vms_stream.specs.declared.statuses.Status.TheVariants as statuses
use Rattle.vms_command.specs.Common.{LinesAbove, MayEnd-status_at_end, come_to, exceeds, exceeds_limit, halted_at}
use Rattle.vms_command.specs.Common.{header_line, most_lines, nothing_above, refuses, status_at_end}
use Rattle.vms_certifying.specs.HistoryLines.{is_history_line}
use Rattle.vms_certifying.specs.HistoryRules.{HistoryRules}
use Rattle.vms_certifying.specs.Judging.{IsNeverWhole}
use Rattle.vms_certifying.specs.Printing.{certified_line, fault_line}
use Rattle.vms_phase_checks.specs.declared.faults.EventCause.TheVariants.{Incomplete}
use Rattle.vms_certifying.specs.declared.verdicts.Verdict.{Verdict}
use Rattle.vms_certifying.specs.declared.verdicts.Verdict.TheVariants.{Refused, Taken, Whole}

-- before a line: of the header, of the trace that follows it, or of the history. The body begins at line `first`, these
-- are the lines of the trace so far, and those of the history
pub data CertifyState : Type 0 where
  Heading : ℕ → Stage → CertifyState
  Trace : Header → (first : ℕ) → List (List ℕ) → CertifyState
  Written : Header → (first : ℕ) → List (List ℕ) → List (List ℕ) → CertifyState

-- the number of the line that comes next
abbrev pub number_of : CertifyState → ℕ
number_of (Heading n stage) = n
number_of (Trace header first texts) = first + length texts
number_of (Written header first texts lines) = first + length texts + 1 + length lines

-- what the lines of a trace came to, and its phases and boundary lines
abbrev pub trace_above : Header → List (List ℕ) → LinesAbove
trace_above header texts = come_to header nothing_above texts

abbrev pub segments_in : Header → ℕ → List (List ℕ) → List Segment
segments_in header first texts = (contents_of header first texts).segments

-- which verdicts a line of a history may have, and the end of the input
abbrev pub MayJudge : HistoryRules → Header → List Segment → List (List ℕ) → List ℕ → Verdict → Type 0
MayJudge rules header segments lines line Taken = rules.Begins header segments (lines ++ line ∷ [])
MayJudge rules header segments lines line (Refused cause) = rules.IsFault header segments lines line cause
MayJudge rules header segments lines line (Whole phases events) = ⊥

abbrev pub MayJudgeAll : HistoryRules → Header → List Segment → List (List ℕ) → Verdict → Type 0
MayJudgeAll rules header segments lines Taken = ⊥
MayJudgeAll rules header segments lines (Refused cause) =
    (cause ≡ Incomplete) × IsNeverWhole rules header segments lines
MayJudgeAll rules header segments lines (Whole phases events) = rules.IsWhole header segments lines phases events

-- whether a verdict is given at a line: at each of a history within the limit on lines
abbrev pub judges_line : CertifyState → Bool
judges_line (Written header first texts lines) = not (nat_lt most_lines (first + length texts + 1 + length lines))
judges_line _ = false

abbrev pub AllowsVerdict : HistoryRules → CertifyState → List ℕ → Verdict → Type 0
AllowsVerdict rules (Written header first texts lines) line verdict =
    MayJudge rules header (segments_in header first texts) lines line verdict
AllowsVerdict rules _ line verdict = ⊥

-- whether one is given at the end of the input: unless the header is cut off. A trace without a history lacks it
abbrev pub judges_end : CertifyState → Bool
judges_end (Heading n stage) = false
judges_end _ = true

abbrev pub AllowsLastVerdict : HistoryRules → CertifyState → Verdict → Type 0
AllowsLastVerdict rules (Heading n stage) verdict = ⊥
AllowsLastVerdict rules (Trace header first texts) verdict = verdict ≡ Refused Incomplete
AllowsLastVerdict rules (Written header first texts lines) verdict =
    MayJudgeAll rules header (segments_in header first texts) lines verdict

-- a header's line
abbrev pub after_head : ℕ → Stage → Result HeadStep HeaderCause → CertifyState
after_head n stage (Ok (Goes next)) = Heading (suc n) next
after_head n stage (Ok (Ends draft)) = Trace (header_of draft) (suc n) []
after_head n stage (Err cause) = Heading n stage

abbrev pub printed_head : ℕ → Result HeadStep HeaderCause → List ℕ
printed_head n (Ok step) = []
printed_head n (Err cause) = header_line (record { line = n; cause = cause })

-- after a line: the first one that says so ends the trace
abbrev pub after_line : CertifyState → List ℕ → CertifyState
after_line (Heading n stage) line = after_head n stage (head_line stage line)
after_line (Trace header first texts) line =
    if is_history_line line then Written header first texts [] else Trace header first (texts ++ line ∷ [])
after_line (Written header first texts lines) line = Written header first texts (lines ++ line ∷ [])

-- what a verdict prints of line n, or at the end of the input, where that is its number
abbrev pub verdict_text : ℕ → Option Verdict → List ℕ
verdict_text n (Some (Refused cause)) = fault_line n cause
verdict_text n (Some (Whole phases events)) = certified_line phases events
verdict_text n _ = []

abbrev pub printed_line : CertifyState → List ℕ → Option Verdict → List ℕ
printed_line (Heading n stage) line given = printed_head n (head_line stage line)
printed_line state line given = verdict_text (number_of state) given

-- why the command stops at a line: the line refuses the header, is at fault in the history, or exceeds a limit
abbrev pub refused_by : Option Verdict → Option Status
refused_by (Some (Refused cause)) = Some statuses.NotCertified
refused_by _ = None

abbrev pub halted_in_trace : LinesAbove → Header → List ℕ → Option Status
halted_in_trace above header line =
    if is_history_line line then None else exceeds (exceeds_limit above.lines (judged header above.lines line))

abbrev pub halted_line : CertifyState → List ℕ → Option Verdict → Option Status
halted_line (Heading n stage) line given = halted_at n (refuses (head_line stage line))
halted_line (Trace header first texts) line given =
    halted_at (first + length texts) (halted_in_trace (trace_above header texts) header line)
halted_line (Written header first texts lines) line given =
    halted_at (first + length texts + 1 + length lines) (refused_by given)

-- what is printed at the end of the input, and how the command ends there
abbrev pub printed_end : CertifyState → Option Verdict → List ℕ
printed_end (Heading n stage) given = header_line (record { line = n; cause = missing stage })
printed_end state given = verdict_text (number_of state) given

abbrev pub ended_by : ℕ → Option Verdict → Status
ended_by refused (Some (Whole phases events)) = status_at_end refused
ended_by refused _ = statuses.NotCertified

abbrev pub ends_as : CertifyState → Option Verdict → Status
ends_as (Heading n stage) given = statuses.Header
ends_as (Trace header first texts) given = statuses.NotCertified
ends_as (Written header first texts lines) given = ended_by (trace_above header texts).refused given

-- with these statuses a line may stop a command, and a command may end
MayHalt-if : (over : Bool) (halt : Option Status) → MayHalt halt
    → MayHalt (if over then Some statuses.TooLong else halt)
MayHalt-if true halt may = tt
MayHalt-if false halt may = may

MayHalt-refuses : (read : Result HeadStep HeaderCause) → MayHalt (refuses read)
MayHalt-refuses (Ok read) = tt
MayHalt-refuses (Err cause) = tt

MayHalt-exceeds : (history over : Bool) → MayHalt (if history then None else exceeds over)
MayHalt-exceeds true over = tt
MayHalt-exceeds false true = tt
MayHalt-exceeds false false = tt

MayHalt-refused : (given : Option Verdict) → MayHalt (refused_by given)
MayHalt-refused (Some (Refused cause)) = tt
MayHalt-refused (Some Taken) = tt
MayHalt-refused (Some (Whole phases events)) = tt
MayHalt-refused None = tt

pub MayHalt-halted_line : (state : CertifyState) (line : List ℕ) (given : Option Verdict)
    → MayHalt (halted_line state line given)
MayHalt-halted_line (Heading n stage) line given = MayHalt-if (nat_lt most_lines n) (refuses (head_line stage line))
    (MayHalt-refuses (head_line stage line))
MayHalt-halted_line (Trace header first texts) line given =
    let above = trace_above header texts in
    MayHalt-if (nat_lt most_lines (first + length texts)) (halted_in_trace above header line)
    (MayHalt-exceeds (is_history_line line) (exceeds_limit above.lines (judged header above.lines line)))
MayHalt-halted_line (Written header first texts lines) line given =
    MayHalt-if (nat_lt most_lines (first + length texts + 1 + length lines)) (refused_by given) (MayHalt-refused given)

MayEnd-ended_by : (refused : ℕ) (given : Option Verdict) → MayEnd (ended_by refused given)
MayEnd-ended_by refused (Some (Whole phases events)) = MayEnd-status_at_end refused
MayEnd-ended_by refused (Some Taken) = tt
MayEnd-ended_by refused (Some (Refused cause)) = tt
MayEnd-ended_by refused None = tt

pub MayEnd-ends_as : (state : CertifyState) (given : Option Verdict) → MayEnd (ends_as state given)
MayEnd-ends_as (Heading n stage) given = tt
MayEnd-ends_as (Trace header first texts) given = tt
MayEnd-ends_as (Written header first texts lines) given = MayEnd-ended_by (trace_above header texts).refused given

-- the command, line by line. What ends a phase of other commands is here a verdict
abbrev pub certifying : HistoryRules → PhasedBehavior CertifyState Verdict
certifying rules = record {
  start = Heading 1 Opening;
  ends_phase = λ state line. judges_line state;
  Allows = AllowsVerdict rules;
  next = λ state line given. after_line state line;
  prints = printed_line;
  halts = halted_line;
  may_halt = MayHalt-halted_line;
  ends_last = judges_end;
  AllowsLast = AllowsLastVerdict rules;
  last = printed_end;
  ends = ends_as;
  may_end = MayEnd-ends_as;
}
