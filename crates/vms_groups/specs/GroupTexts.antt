-- What `groups` says from line to line: through the header, and then through the body.
use Rattle.std.specs.Prelude.{ℕ, suc, nat_lt, Bool, true, false, if◌then◌else◌, List, [], ◌∷◌, ◌++◌, length, codes, ℤ}
use Rattle.std.specs.Prelude.{pos, slice_index_or, Option, Some, None, Result, Ok, Err}
use Rattle.std.specs.Fmt.{signed_decimal}
use Rattle.vms_command.specs.Common.{MayEnd-status_at_end, done_line, exceeds, halted_at, line_prefix, most_lines}
use Rattle.vms_command.specs.Common.{status_at_end}
use Rattle.vms_group_core.specs.declared.call_values.GroupCall.{GroupCall}
use Rattle.vms_group_core.specs.declared.call_values.GroupCall.TheVariants.{Value}
use Rattle.vms_group_core.specs.declared.trees.Tree.{Tree}
use Rattle.vms_group_lines.specs.declared.causes.GroupCause.{GroupCause}
use Rattle.vms_group_lines.specs.declared.headers.GroupHeader.{GroupHeader}
use Rattle.vms_group_lines.specs.declared.lines.GroupLine.{GroupLine}
use Rattle.vms_group_lines.specs.declared.lines.GroupLine.TheVariants.{Blank, Lane, Sync, Report}
use Rattle.vms_group_lines.specs.declared.stages.GroupStage.{GroupStage}
use Rattle.vms_group_lines.specs.declared.stages.HeadStep.{HeadStep}
use Rattle.vms_group_lines.specs.declared.stages.GroupStage.TheVariants.{Opening}
use Rattle.vms_group_lines.specs.declared.stages.HeadStep.TheVariants.{Ends, Goes}
use Rattle.vms_group_lines.specs.Common.{GroupFault, group_cause_name, group_head_line, group_missing, judged_group}
use Rattle.vms_group_phase.specs.declared.items.GroupItem.{GroupItem}
use Rattle.vms_group_phase.specs.declared.items.NumberedValue.{NumberedValue}
use Rattle.vms_group_phase.specs.declared.worlds.GroupWorld.{GroupWorld}
use Rattle.vms_group_phase.specs.Common.{first_group_world, group_values, has_some}
use Rattle.vms_group_report.specs.Common.{group_lines}
use Rattle.vms_stream.specs.Common.{LineTexts, MayEnd, MayHalt, Text, Plain, Asks}
use Rattle.vms_stream.specs.declared.statuses.Status.{Status}
use Rattle.vms_stream.specs.declared.statuses.Status.TheVariants.{TooLong}
use Rattle.vms_stream.specs.declared.statuses.Status.TheVariants as statuses
use Rattle.vms_groups.specs.GroupLimits.{exceeds_limit}
use Rattle.vms_groups.specs.PastPhases.{IsPhaseFrom, PastGroupPhase, group_world_after, plain_total, with_lines}

-- what is kept of the lines of a body: those that count, the newest first, how many were refused, the world that the
-- open phase begins with, the lines of the phases before it, the newest first, and those of the open one, in order
pub record GroupsKept : Type 0 where
  pub lines : List GroupLine
  pub refused : ℕ
  pub world : GroupWorld
  pub past : List (List GroupItem)
  pub items : List GroupItem

-- before the first line of a body
abbrev pub first_kept : GroupHeader → GroupsKept
first_kept header = record {
  lines = [];
  refused = 0;
  world = first_group_world header.tree;
  past = [];
  items = [];
}

-- before line n of the header, or of the body
pub data GroupsState : Type 0 where
  Heading : ℕ → GroupStage → GroupsState
  Body : ℕ → GroupHeader → GroupsKept → GroupsState

-- `line N: CAUSE`, the one line of a refused header
abbrev pub group_header_line : GroupFault → List ℕ
group_header_line fault = line_prefix fault.line ++ group_cause_name fault.cause ++ 10 ∷ []

-- `line N: refused: CAUSE`
abbrev pub refused_group_line : ℕ → GroupCause → List ℕ
refused_group_line n cause = line_prefix n ++ codes "refused: " ++ group_cause_name cause ++ 10 ∷ []

-- `line N: value V`
abbrev pub value_line : ℕ → ℤ → List ℕ
value_line n value = line_prefix n ++ codes "value " ++ signed_decimal value ++ 10 ∷ []

-- how many of these lines ask for a value
abbrev pub asks : GroupCall → Bool
asks (Value g) = true
asks _ = false

abbrev pub asks_in : List GroupItem → ℕ
asks_in [] = 0
asks_in (item ∷ items) = if asks item.call then suc (asks_in items) else asks_in items

-- the value after so many others
abbrev pub value_after : ℕ → List NumberedValue → ℤ
value_after k values = (slice_index_or values k (record { number = 0; value = pos 0 })).value

-- the text of line n, which makes a call: the value that it asks for, which comes after those of the lines above in its
-- phase
abbrev pub call_text : Tree → ℕ → GroupCall → GroupsKept → Text PastGroupPhase
call_text tree n (Value g) kept = Asks (λ phase.
    value_line n (value_after (asks_in kept.items) (group_values tree kept.world phase.items phase.events)))
call_text tree n _ kept = Plain []

-- a text that tells of what stands after the phase that ends, where one is open
abbrev pub text_after : {O : Type 0} → Bool → (Option O → List ℕ) → Text O
text_after phase_open text = if phase_open then Asks (λ phase. text (Some phase)) else Plain (text None)

-- the report of line n of this world, below its line: each group's total is the plain sum of the lines of these phases
abbrev pub report_lines : GroupHeader → ℕ → GroupWorld → List (List GroupItem) → List ℕ
report_lines header n w past = line_prefix n ++ codes "report groups" ++ 10 ∷ []
    ++ group_lines header.names header.tree w.words (plain_total header.tree past)

abbrev pub report_text : GroupHeader → ℕ → GroupsKept → Text PastGroupPhase
report_text header n kept = text_after (has_some kept.items)
    (λ given. report_lines header n (group_world_after header.tree kept.world given) (with_lines given kept.past))

-- the text of line n, by what was judged of it
abbrev pub judged_text : GroupHeader → ℕ → Result GroupLine GroupCause → GroupsKept → Text PastGroupPhase
judged_text header n (Ok Blank) kept = Plain []
judged_text header n (Ok (Lane cpu call)) kept = call_text header.tree n call kept
judged_text header n (Ok Sync) kept = Plain []
judged_text header n (Ok Report) kept = report_text header n kept
judged_text header n (Err cause) kept = Plain (refused_group_line n cause)

-- whether a phase ends at a line, where one is open or none is
abbrev pub ends_judged : Bool → Result GroupLine GroupCause → Bool
ends_judged phase_open (Ok Sync) = phase_open
ends_judged phase_open (Ok Report) = phase_open
ends_judged phase_open _ = false

-- kept where the open phase ends, if one is open
abbrev pub with_phase : Tree → Option PastGroupPhase → GroupsKept → GroupsKept
with_phase tree given kept = record {
  lines = kept.lines;
  refused = kept.refused;
  world = group_world_after tree kept.world given;
  past = with_lines given kept.past;
  items = [];
}

abbrev pub with_line : GroupLine → GroupsKept → GroupsKept
with_line line kept = record kept { lines = line ∷ kept.lines }

-- kept after line n, by what was judged of it and by the phase that ends there
abbrev pub next_kept : GroupHeader → ℕ → Result GroupLine GroupCause → Option PastGroupPhase → GroupsKept → GroupsKept
next_kept header n (Ok Blank) given kept = kept
next_kept header n (Ok (Lane cpu call)) given kept = record {
  lines = Lane cpu call ∷ kept.lines;
  refused = kept.refused;
  world = kept.world;
  past = kept.past;
  items = kept.items ++ record { number = n; cpu = cpu; call = call } ∷ [];
}
next_kept header n (Ok Sync) given kept = with_line Sync (with_phase header.tree given kept)
next_kept header n (Ok Report) given kept = with_line Report (with_phase header.tree given kept)
next_kept header n (Err cause) given kept = record kept { refused = suc kept.refused }

-- a header's line: its first fault stops the command, and `go` begins the body
abbrev pub after_head : ℕ → GroupStage → Result HeadStep GroupCause → GroupsState
after_head n stage (Ok (Goes next)) = Heading (suc n) next
after_head n stage (Ok (Ends header)) = Body (suc n) header (first_kept header)
after_head n stage (Err cause) = Heading n stage

abbrev pub printed_head : ℕ → Result HeadStep GroupCause → List ℕ
printed_head n (Ok step) = []
printed_head n (Err cause) = group_header_line (record { line = n; cause = cause })

abbrev pub refuses_head : Result HeadStep GroupCause → Option Status
refuses_head (Ok step) = None
refuses_head (Err cause) = Some statuses.Header

-- whether a phase is open, and which one it may become
abbrev pub is_open : GroupsState → Bool
is_open (Heading n stage) = false
is_open (Body n header kept) = has_some kept.items

abbrev pub may_become : GroupsState → PastGroupPhase → Type 0
may_become (Heading n stage) = λ phase. ⊥
may_become (Body n header kept) = λ phase. IsPhaseFrom header.tree kept.world kept.items phase

abbrev pub ends_at_line : GroupsState → List ℕ → Bool
ends_at_line (Heading n stage) line = false
ends_at_line (Body n header kept) line = ends_judged (has_some kept.items) (judged_group header kept.lines line)

abbrev pub after_line : GroupsState → List ℕ → Option PastGroupPhase → GroupsState
after_line (Heading n stage) line given = after_head n stage (group_head_line stage line)
after_line (Body n header kept) line given =
    Body (suc n) header (next_kept header n (judged_group header kept.lines line) given kept)

abbrev pub line_text : GroupsState → List ℕ → Text PastGroupPhase
line_text (Heading n stage) line = Plain (printed_head n (group_head_line stage line))
line_text (Body n header kept) line = judged_text header n (judged_group header kept.lines line) kept

-- why the command stops at a line: the line is at fault in the header, or it exceeds the limit on lines, on phases or
-- on reports
abbrev pub halts_at : GroupsState → List ℕ → Option Status
halts_at (Heading n stage) line = halted_at n (refuses_head (group_head_line stage line))
halts_at (Body n header kept) line =
    halted_at n (exceeds (exceeds_limit kept.lines (judged_group header kept.lines line)))

-- the text at the end of the trace, and how the command ends there
abbrev pub end_text : GroupsState → Text PastGroupPhase
end_text (Heading n stage) = Plain (group_header_line (record { line = n; cause = group_missing stage }))
end_text (Body n header kept) = Plain (done_line (length kept.lines) kept.refused)

abbrev pub ends_as : GroupsState → Status
ends_as (Heading n stage) = statuses.Header
ends_as (Body n header kept) = status_at_end kept.refused

-- with these statuses a line may stop the command, and the command may end
MayHalt-if : (over : Bool) (halt : Option Status) → MayHalt halt → MayHalt (if over then Some TooLong else halt)
MayHalt-if true halt may = tt
MayHalt-if false halt may = may

MayHalt-refuses : (read : Result HeadStep GroupCause) → MayHalt (refuses_head read)
MayHalt-refuses (Ok step) = tt
MayHalt-refuses (Err cause) = tt

pub MayHalt-halts_at : (state : GroupsState) (line : List ℕ) → MayHalt (halts_at state line)
MayHalt-halts_at (Heading n stage) line =
    MayHalt-if (nat_lt most_lines n) (refuses_head (group_head_line stage line))
    (MayHalt-refuses (group_head_line stage line))
MayHalt-halts_at (Body n header kept) line =
    let over = exceeds_limit kept.lines (judged_group header kept.lines line) in
    MayHalt-if (nat_lt most_lines n) (exceeds over) (MayHalt-if over None tt)

pub MayEnd-ends_as : (state : GroupsState) → MayEnd (ends_as state)
MayEnd-ends_as (Heading n stage) = tt
MayEnd-ends_as (Body n header kept) = MayEnd-status_at_end kept.refused

-- the command, line by line
abbrev pub groups_texts : LineTexts GroupsState PastGroupPhase
groups_texts = record {
  start = Heading 1 Opening;
  ends_phase = ends_at_line;
  Allows = λ state line. may_become state;
  next = after_line;
  text = line_text;
  halts = halts_at;
  may_halt = MayHalt-halts_at;
  ends_last = is_open;
  AllowsLast = may_become;
  last = end_text;
  ends = λ state given. ends_as state;
  may_end = λ state given. MayEnd-ends_as state;
}

-- the command shows nothing at the end but what is printed there
abbrev pub shown_by_groups : {S : Type 0} → S → Option PastGroupPhase → Type 0
shown_by_groups now given = Unit {0}
