-- What the text of a body alone decides: its phases, the boundary lines between them, and each refused line with its
-- cause.
use Rattle.std.specs.Prelude.{◌≡◌, ◌≢◌, ℕ, suc, List, [], ◌∷◌, ◌++◌, All, map, reverse, Result, Ok, Err}
use Rattle.vms_base.specs.declared.headers.Header.{Header}
use Rattle.vms_base.specs.Common.{IsHeader}
use Rattle.vms_text.specs.declared.acts.Boundary.{Boundary as BoundaryOf}
use Rattle.vms_text.specs.declared.acts.Item.{Item}
use Rattle.vms_text.specs.declared.acts.Line.{Line}
use Rattle.vms_text.specs.declared.acts.Line.TheVariants.{Blank, Lane, Boundary}
use Rattle.vms_line.specs.declared.causes.LineCause.{LineCause}
use Rattle.vms_line.specs.Common.{IsLineOf}
use Rattle.vms_script.specs.FittingScripts.{Fits}
use Rattle.vms_script.specs.Judging.{allowed_from, with_counted, counted_of, judged}
use Rattle.vms_script.specs.Starts.{Start, first_start, start_at_end}
use Rattle.vms_script.specs.Totals.{line_of}

-- a line of a body: its number in the text, and what it says, or the first cause why it doesn't count
pub record NumberedLine : Type 0 where
  pub number : ℕ
  pub result : Result Line LineCause

-- the lines of a text from line n on, after the lines above that count, the newest first
abbrev pub numbered_lines : Header → List Line → ℕ → List (List ℕ) → List NumberedLine
numbered_lines header above n [] = []
numbered_lines header above n (text ∷ texts) =
    record { number = n; result = judged header above text }
    ∷ numbered_lines header (with_counted (judged header above text) above) (suc n) texts

-- a phase, by its lane lines, or a boundary line, by its number and what it says
pub data Segment : Type 0 where
  Phase : List Item → Segment
  Between : ℕ → BoundaryOf → Segment

-- the segments with a lane line before them: it is of the phase that they begin with, or it is a phase
abbrev pub segments_with_item : Item → List Segment → List Segment
segments_with_item item [] = Phase (item ∷ []) ∷ []
segments_with_item item (Phase items ∷ segments) = Phase (item ∷ items) ∷ segments
segments_with_item item (Between number boundary ∷ segments) = Phase (item ∷ []) ∷ Between number boundary ∷ segments

-- the segments with line n before them; one that is blank or refused is of none
abbrev pub segments_with : ℕ → Result Line LineCause → List Segment → List Segment
segments_with n (Ok Blank) segments = segments
segments_with n (Ok (Lane lane act)) segments =
    segments_with_item (record { number = n; lane = lane; act = act }) segments
segments_with n (Ok (Boundary boundary)) segments = Between n boundary ∷ segments
segments_with n (Err cause) segments = segments

-- the segments of these lines
abbrev pub segments_of : List NumberedLine → List Segment
segments_of [] = []
segments_of (line ∷ lines) = segments_with line.number line.result (segments_of lines)

-- a line that doesn't count: its number, and the first cause
pub record RefusedLine : Type 0 where
  pub number : ℕ
  pub cause : LineCause

abbrev pub with_refused : ℕ → Result Line LineCause → List RefusedLine → List RefusedLine
with_refused n (Ok line) refused = refused
with_refused n (Err cause) refused = record { number = n; cause = cause } ∷ refused

-- those among these lines
abbrev pub refused_of : List NumberedLine → List RefusedLine
refused_of [] = []
refused_of (line ∷ lines) = with_refused line.number line.result (refused_of lines)

-- what a body says: its segments, and the lines that are refused
pub record Contents : Type 0 where
  pub segments : List Segment
  pub refused : List RefusedLine

-- what the body with these lines says, of which the first has number n in the text
abbrev pub contents_of : Header → ℕ → List (List ℕ) → Contents
contents_of header n texts = record {
  segments = segments_of (numbered_lines header [] n texts);
  refused = refused_of (numbered_lines header [] n texts);
}

-- the lines of a segment, the oldest first
abbrev pub lines_of_segment : Segment → List Line
lines_of_segment (Phase items) = map line_of items
lines_of_segment (Between number boundary) = Boundary boundary ∷ []

abbrev pub lines_of_segments : List Segment → List Line
lines_of_segments [] = []
lines_of_segments (segment ∷ segments) = lines_of_segment segment ++ lines_of_segments segments

-- segments that don't begin with a phase
abbrev pub BeginsWithNoPhase : List Segment → Type 0
BeginsWithNoPhase [] = Unit {0}
BeginsWithNoPhase (Phase items ∷ segments) = ⊥
BeginsWithNoPhase (Between number boundary ∷ segments) = Unit {0}

-- a segment that may stand there, before these: a phase has a line, fits, and no phase follows it; a boundary line
-- counts
abbrev pub MayStand : Header → Start → Segment → List Segment → Type 0
MayStand header start (Phase items) after = (items ≢ []) × Fits header start items × BeginsWithNoPhase after
MayStand header start (Between number boundary) after =
    IsLineOf header (Boundary boundary) × (allowed_from header start (Boundary boundary) ≡ Ok (Boundary boundary))

-- segments that may stand there, each after those before it
abbrev pub AreSegments : Header → Start → List Segment → Type 0
AreSegments header start [] = Unit {0}
AreSegments header start (segment ∷ segments) =
    MayStand header start segment segments × AreSegments header (start_at_end start (lines_of_segment segment)) segments

-- the segments of a body may stand where it begins: every CPU is online, and has changed nothing
abbrev pub SegmentsMayStand : Type 0
SegmentsMayStand = (header : Header) (n : ℕ) (texts : List (List ℕ)) → IsHeader header
    → AreSegments header first_start (contents_of header n texts).segments

-- their lines are the lines that count
abbrev pub SegmentsHaveAllLines : Type 0
SegmentsHaveAllLines = (header : Header) (n : ℕ) (texts : List (List ℕ))
    → reverse (lines_of_segments (contents_of header n texts).segments) ≡ counted_of header [] texts

-- a boundary line cuts: the lines before it and those after it have their segments whatever the others are
abbrev pub BoundariesCut : Type 0
BoundariesCut = (before after : List NumberedLine) (n : ℕ) (boundary : BoundaryOf)
    → segments_of (before ++ record { number = n; result = Ok (Boundary boundary) } ∷ after)
    ≡ segments_of before ++ Between n boundary ∷ segments_of after

-- lines of which none is a boundary line that counts
abbrev pub HaveNoBoundary : List NumberedLine → Type 0
HaveNoBoundary lines = All (λ line. (boundary : BoundaryOf) → line.result ≢ Ok (Boundary boundary)) lines

-- the lane lines that count with line n before them
abbrev pub with_kept : ℕ → Result Line LineCause → List Item → List Item
with_kept n (Ok Blank) items = items
with_kept n (Ok (Lane lane act)) items = record { number = n; lane = lane; act = act } ∷ items
with_kept n (Ok (Boundary boundary)) items = items
with_kept n (Err cause) items = items

-- those among these lines
abbrev pub kept_items : List NumberedLine → List Item
kept_items [] = []
kept_items (line ∷ lines) = with_kept line.number line.result (kept_items lines)

-- the phase with these lane lines, if there is one
abbrev pub phase_if_any : List Item → List Segment
phase_if_any [] = []
phase_if_any (item ∷ items) = Phase (item ∷ items) ∷ []

-- between boundary lines there is one phase, of all lane lines that count, or none
abbrev pub LinesMakeOnePhase : Type 0
LinesMakeOnePhase = (lines : List NumberedLine) → HaveNoBoundary lines
    → segments_of lines ≡ phase_if_any (kept_items lines)
