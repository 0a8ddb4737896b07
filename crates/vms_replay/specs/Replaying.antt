-- What `replay` and `run` print of a trace, by the histories of its phases: refusals, answers and reports in the order
-- of lines.
use Rattle.std.specs.Prelude.{◌≡◌, ℕ, nat_eq, Bool, true, false, if◌then◌else◌, List, [], ◌∷◌, ◌++◌, length, Option}
use Rattle.std.specs.Prelude.{Some, None, Result, Ok, Err}
use Rattle.vms_world.specs.Common.{Header, LineCause, spelled_line, Act, Lim, Cmp, Rough, EvSum, Water, Val, Snap, Sys}
use Rattle.vms_world.specs.Common.{Kswapd, Report, Item, Line, Blank, ReportKind, Totals, TableHistories}
use Rattle.vms_answers.specs.Common.{answer_line, NumberedAnswer}
use Rattle.vms_command.specs.Common.{TraceCommand, MayEnd-status_at_end, status_at_end, LinesAbove, done_line}
use Rattle.vms_command.specs.Common.{line_prefix, refused_line}
use Rattle.vms_stream.specs.Common.{Text, Plain, Asks}
use Rattle.vms_report.specs.Common.{report_of}
use Rattle.vms_text.specs.declared.acts.Act.TheVariants.{Sum}
use Rattle.vms_text.specs.declared.acts.Boundary.{Boundary as BoundaryOf}
use Rattle.vms_text.specs.declared.acts.Line.TheVariants.{Lane, Boundary}
use Rattle.vms_world.specs.declared.worlds.World.{World}
use Rattle.vms_replay.specs.MadePhases.{PastPhase, answers_in, crossed, first_world, phase_facts, with_given}
use Rattle.vms_replay.specs.MadePhases.{world_after}
use Rattle.vms_replay.specs.PlainReports.{plain_report}

-- what is kept of the lines of a body: the world that the open phase begins with, the lines that count above that and
-- the phases that were made of them, the newest first, and the lines of the phase, the oldest first
pub record Kept : Type 0 where
  pub world : World
  pub above : List Line
  pub made : List PastPhase
  pub items : List Item

-- kept before the first line of the body
abbrev pub first_kept : Header → Kept
first_kept header = record {
  world = first_world header;
  above = [];
  made = [];
  items = [];
}

-- whether a list has an element
abbrev pub has_some : {X : Type 0} → List X → Bool
has_some [] = false
has_some (x ∷ xs) = true

-- a phase that was made of the open one, where `Makes` says which histories it may have
pub record MayBe (Makes : Header → World → List Item → TableHistories → Type 0) (header : Header) (w : World)
    (items : List Item) (made : PastPhase) : Type 0 where
  pub from : made.world ≡ w
  pub of : made.items ≡ items
  pub told : made.facts ≡ phase_facts header w
  pub makes : Makes header w items made.histories

-- whether an act answers something
abbrev pub is_asking : Act → Bool
is_asking (Lim j limit amount) = true
is_asking (Cmp j rhs) = true
is_asking (Sum j) = true
is_asking (Rough j) = true
is_asking (EvSum k) = true
is_asking (Water g mark most) = true
is_asking (Val k) = true
is_asking (Snap k) = true
is_asking (Sys i) = true
is_asking (Kswapd n order most) = true
is_asking _ = false

-- the line for the answer of line n, among these answers
abbrev pub answer_text : Header → ℕ → List NumberedAnswer → List ℕ
answer_text header n [] = []
answer_text header n (next ∷ rest) =
    if nat_eq next.number n then answer_line header n next.answer else answer_text header n rest

-- the text of line n, whose act answers, among the answers of its phase
abbrev pub asking_text : Header → ℕ → Text PastPhase
asking_text header n = Asks (λ made. answer_text header n (answers_in header made))

-- the text of line n, which has this act
abbrev pub act_text : Header → ℕ → Act → Text PastPhase
act_text header n act = if is_asking act then asking_text header n else Plain []

-- a text that tells of what stands after the phase that ends, where one is open
abbrev pub text_after : Bool → (Option PastPhase → List ℕ) → Text PastPhase
text_after phase_open text = if phase_open then Asks (λ made. text (Some made)) else Plain (text None)

-- the report of this kind, after these phases: that of the totals are plain sums of their lines, and every other one
-- tells of the world that stands there
abbrev pub report_after : Header → ReportKind → List PastPhase → World → List ℕ
report_after header Totals made w = plain_report header made
report_after header kind made w = report_of header w kind

-- what boundary line n prints: a report, below its line
abbrev pub boundary_report : Header → ℕ → BoundaryOf → List PastPhase → World → List ℕ
boundary_report header n (Report kind) made w =
    line_prefix n ++ spelled_line header (Boundary (Report kind)) ++ report_after header kind made w
boundary_report header n _ made w = []

-- the text of boundary line n, which tells of what stands after the phase that ends there
abbrev pub boundary_text : Header → ℕ → BoundaryOf → Kept → Text PastPhase
boundary_text header n b kept = text_after (has_some kept.items)
    (λ given. boundary_report header n b (with_given given kept.made) (world_after header kept.world given))

-- the text of line n, by what was judged of it
abbrev pub judged_text : Header → ℕ → Result Line LineCause → Kept → Text PastPhase
judged_text header n (Ok Blank) kept = Plain []
judged_text header n (Ok (Lane lane act)) kept = act_text header n act
judged_text header n (Ok (Boundary b)) kept = boundary_text header n b kept
judged_text header n (Err cause) kept = Plain (refused_line n cause)

-- kept after line n, which counts, with the phase that ends there
abbrev pub kept_with_line : Header → ℕ → LinesAbove → Line → Option PastPhase → Kept → Kept
kept_with_line header n above Blank given kept = kept
kept_with_line header n above (Lane lane act) given kept =
    record kept { items = kept.items ++ record { number = n; lane = lane; act = act } ∷ [] }
kept_with_line header n above (Boundary b) given kept = record {
  world = crossed header b (world_after header kept.world given);
  above = Boundary b ∷ above.lines;
  made = with_given given kept.made;
  items = [];
}

-- kept after line n, by what was judged of it
abbrev pub next_kept : Header → ℕ → LinesAbove → Result Line LineCause → Option PastPhase → Kept → Kept
next_kept header n above (Ok line) given kept = kept_with_line header n above line given kept
next_kept header n above (Err cause) given kept = kept

-- a replay, line by line, whose phases may have these histories: `Makes` says which, from a world and its lines
abbrev pub replaying : (Header → World → List Item → TableHistories → Type 0) → TraceCommand Kept PastPhase
replaying Makes = record {
  begins = first_kept;
  opens = λ header. [];
  phase_open = λ header above kept. has_some kept.items;
  Allows = λ header above kept made. MayBe Makes header kept.world kept.items made;
  next = λ header n above result given kept. next_kept header n above result given kept;
  text = λ header n above result kept. judged_text header n result kept;
  last = λ header above kept. Plain (done_line (length above.lines) above.refused);
  ends = λ above. status_at_end above.refused;
  may_end = λ above. MayEnd-status_at_end above.refused;
}

-- it shows nothing at the end but what is printed there
abbrev pub shown_by_replay : Header → LinesAbove → Kept → Option PastPhase → Type 0
shown_by_replay header above kept given = Unit {0}
