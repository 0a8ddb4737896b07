-- Commands on a trace by what they say from line to line: through the header, and then through the body.
use Rattle.std.specs.Prelude.{Bool, true, false, ℕ, suc, nat_lt, if◌then◌else◌, List, [], Option, Some, None, Result}
use Rattle.std.specs.Prelude.{Ok, Err}
use Rattle.vms_base.specs.declared.headers.Header.{Header}
use Rattle.vms_text.specs.declared.acts.Line.{Line}
use Rattle.vms_text.specs.declared.acts.Line.TheVariants.{Boundary}
use Rattle.vms_header.specs.declared.causes.HeaderCause.{HeaderCause}
use Rattle.vms_line.specs.declared.causes.LineCause.{LineCause}
use Rattle.vms_header.specs.Common.{header_of, Stage, HeadStep, head_line, missing, Opening, Goes, Ends}
use Rattle.vms_script.specs.Common.{judged}
use Rattle.vms_stream.specs.Common.{LineTexts, Text, Plain, MayEnd, MayHalt}
use Rattle.vms_stream.specs.declared.statuses.Status.{Status}
use Rattle.vms_stream.specs.declared.statuses.Status.TheVariants.{Done, Refused, TooLong}
use Rattle.vms_stream.specs.declared.statuses.Status.TheVariants as statuses
use Rattle.vms_command.specs.Limits.{most_lines, exceeds_limit}
use Rattle.vms_command.specs.Lines.{LinesAbove, nothing_above, with_judged}
use Rattle.vms_command.specs.Printing.{header_line}

-- a command on a trace: what it keeps of the lines of the body, beside what they came to, and what it prints. Its
-- phases have outcomes: a phase that is open ends at the next boundary line that counts, or at the end of the trace
pub record TraceCommand (K O : Type 0) : Type 1 where
  -- kept after the header, and printed there
  pub begins : Header → K
  pub opens : Header → List ℕ
  -- whether a phase is open after these lines, and which outcomes it may have
  pub phase_open : Header → LinesAbove → K → Bool
  pub Allows : Header → LinesAbove → K → O → Type 0
  -- kept after line n of the body, by what was judged of it, and by the outcome of the phase that ends there
  pub next : Header → ℕ → LinesAbove → Result Line LineCause → Option O → K → K
  -- the text of line n: plain, or one that asks for the outcome of the phase that is open there or ends there
  pub text : Header → ℕ → LinesAbove → Result Line LineCause → K → Text O
  -- the text at the end of the trace, and how the command ends there
  pub last : Header → LinesAbove → K → Text O
  pub ends : LinesAbove → Status
  pub may_end : (above : LinesAbove) → MayEnd (ends above)

-- whether a phase ends at a line, by what was judged of it
abbrev pub ends_at_judged : Bool → Result Line LineCause → Bool
ends_at_judged phase_open (Ok (Boundary boundary)) = phase_open
ends_at_judged phase_open _ = false

-- the status at the end of a trace: lines that were refused make it `Refused`
abbrev pub status_at_end : ℕ → Status
status_at_end refused = if nat_lt 0 refused then Refused else Done

-- a command may end with these statuses
pub MayEnd-status_at_end : (refused : ℕ) → MayEnd (status_at_end refused)
MayEnd-status_at_end refused = by (nat_lt 0 refused)
  where
    by : (some : Bool) → MayEnd (if some then Refused else Done)
    by true = tt
    by false = tt

-- the state of a command: it stands before line n of the header, or before line n of the body
pub data CommandState (K : Type 0) : Type 0 where
  Heading : ℕ → Stage → CommandState K
  Body : ℕ → Header → LinesAbove → K → CommandState K

-- a header's line: its first fault stops the command, and `go` begins the body
abbrev pub after_head : {K O : Type 0} → TraceCommand K O → ℕ → Stage → Result HeadStep HeaderCause → CommandState K
after_head command n stage (Ok (Goes next)) = Heading (suc n) next
after_head command n stage (Ok (Ends draft)) =
    Body (suc n) (header_of draft) nothing_above (command.begins (header_of draft))
after_head command n stage (Err cause) = Heading n stage

-- what a line of the header prints, by what was read of it
abbrev pub printed_head : {K O : Type 0} → TraceCommand K O → ℕ → Result HeadStep HeaderCause → List ℕ
printed_head command n (Ok (Goes next)) = []
printed_head command n (Ok (Ends draft)) = command.opens (header_of draft)
printed_head command n (Err cause) = header_line (record { line = n; cause = cause })

-- the status with which a line of the header stops the command
abbrev pub refuses : Result HeadStep HeaderCause → Option Status
refuses (Ok read) = None
refuses (Err cause) = Some statuses.Header

-- whether a phase is open
abbrev pub phase_at : {K O : Type 0} → TraceCommand K O → CommandState K → Bool
phase_at command (Heading n stage) = false
phase_at command (Body n header above kept) = command.phase_open header above kept

-- which outcomes the open phase may have
abbrev pub allows_at : {K O : Type 0} → TraceCommand K O → CommandState K → O → Type 0
allows_at command (Heading n stage) = λ outcome. ⊥
allows_at command (Body n header above kept) = command.Allows header above kept

-- whether a phase ends at a line
abbrev pub ends_phase_at : {K O : Type 0} → TraceCommand K O → CommandState K → List ℕ → Bool
ends_phase_at command (Heading n stage) line = false
ends_phase_at command (Body n header above kept) line =
    ends_at_judged (command.phase_open header above kept) (judged header above.lines line)

-- after a line, by the outcome of the phase that ends there
abbrev pub after_line : {K O : Type 0} → TraceCommand K O → CommandState K → List ℕ → Option O → CommandState K
after_line command (Heading n stage) line given = after_head command n stage (head_line stage line)
after_line command (Body n header above kept) line given =
    Body (suc n) header (with_judged (judged header above.lines line) above)
    (command.next header n above (judged header above.lines line) given kept)

-- the text of a line
abbrev pub line_text : {K O : Type 0} → TraceCommand K O → CommandState K → List ℕ → Text O
line_text command (Heading n stage) line = Plain (printed_head command n (head_line stage line))
line_text command (Body n header above kept) line = command.text header n above (judged header above.lines line) kept

-- the status with which line n stops the command: the limit on lines comes before this one
abbrev pub halted_at : ℕ → Option Status → Option Status
halted_at n halt = if nat_lt most_lines n then Some TooLong else halt

-- the status where a limit is exceeded
abbrev pub exceeds : Bool → Option Status
exceeds over = if over then Some TooLong else None

-- the status with which a line stops the command: it is at fault in the header, or it exceeds the limit on lines, on
-- phases or on reports
abbrev pub halts_at : {K : Type 0} → CommandState K → List ℕ → Option Status
halts_at (Heading n stage) line = halted_at n (refuses (head_line stage line))
halts_at (Body n header above kept) line =
    halted_at n (exceeds (exceeds_limit above.lines (judged header above.lines line)))

-- the text at the end of a trace
abbrev pub end_text : {K O : Type 0} → TraceCommand K O → CommandState K → Text O
end_text command (Heading n stage) = Plain (header_line (record { line = n; cause = missing stage }))
end_text command (Body n header above kept) = command.last header above kept

-- how a command ends at the end of a trace
abbrev pub ends_as : {K O : Type 0} → TraceCommand K O → CommandState K → Status
ends_as command (Heading n stage) = statuses.Header
ends_as command (Body n header above kept) = command.ends above

-- with these statuses a line may stop a command
MayHalt-if : (over : Bool) (halt : Option Status) → MayHalt halt → MayHalt (if over then Some TooLong else halt)
MayHalt-if true halt may = tt
MayHalt-if false halt may = may

-- a line of the header may stop a command with these statuses
MayHalt-refuses : (read : Result HeadStep HeaderCause) → MayHalt (refuses read)
MayHalt-refuses (Ok read) = tt
MayHalt-refuses (Err cause) = tt

-- a line may stop a command with these statuses
pub MayHalt-halts_at : {K : Type 0} (state : CommandState K) (line : List ℕ) → MayHalt (halts_at state line)
MayHalt-halts_at (Heading n stage) line = MayHalt-if (nat_lt most_lines n) (refuses (head_line stage line))
    (MayHalt-refuses (head_line stage line))
MayHalt-halts_at (Body n header above kept) line =
    let over = exceeds_limit above.lines (judged header above.lines line) in
    MayHalt-if (nat_lt most_lines n) (exceeds over) (MayHalt-if over None tt)

-- a command may end so
pub MayEnd-ends_as : {K O : Type 0} (command : TraceCommand K O) (state : CommandState K)
    → MayEnd (ends_as command state)
MayEnd-ends_as command (Heading n stage) = tt
MayEnd-ends_as command (Body n header above kept) = command.may_end above

-- a command, line by line
abbrev pub following : {K O : Type 0} → TraceCommand K O → LineTexts (CommandState K) O
following command = record {
  start = Heading 1 Opening;
  ends_phase = ends_phase_at command;
  Allows = λ state line. allows_at command state;
  next = after_line command;
  text = line_text command;
  halts = halts_at;
  may_halt = MayHalt-halts_at;
  ends_last = phase_at command;
  AllowsLast = allows_at command;
  last = end_text command;
  ends = λ state given. ends_as command state;
  may_end = λ state given. MayEnd-ends_as command state;
}
