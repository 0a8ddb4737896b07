-- The history that follows the copy of a trace, and what was written of it where the writing stopped.
use Rattle.std.specs.Prelude.{◌≡◌, ◌⊎◌, ℕ, List, [], ◌∷◌, ◌++◌, Option, Some, Result, MatchResult}
use Rattle.std.specs.Io.KnownBytes.{Appends}
use Rattle.vms_core.specs.Pages.{History}
use Rattle.vms_recorded.specs.Histories.{HasRecorded, IsRecordedHistory, history_lines}
use Rattle.vms_recording.specs.Common.{IsDueInPhase, IsRecording}
use Rattle.vms_recording.specs.declared.writers.HistoryWriter.{HistoryWriter}
use Rattle.vms_world.specs.Common.{AreSegments, Header, IsHeader, Phase, Segment, Start, State, first_start}
use Rattle.vms_stream.specs.Common.{FaultsOfSink}
use Rattle.vms_stream.specs.declared.statuses.Status.{Status}
use Rattle.vms_stream.specs.declared.statuses.Status.TheVariants.{Done, Memory, Refused, WriteFault}
use Rattle.vms_trace_parts.specs.Common.{TracePart, header_in, segments_of_parts}
use Rattle.vms_written_lines.specs.Spelling.{history_line}

-- what may have been made of a history after these page counters: the lines of the histories so far, or with those of a
-- part of the phase that follows
abbrev pub IsDueBefore : Header → List History → State → List Segment → List ℕ → Type 0
IsDueBefore header hs s (Phase items ∷ rest) text = IsDueInPhase header hs s items text
IsDueBefore header hs s rest text = text ≡ history_lines hs

-- these are lines of the recorded history of these segments, from its first phase up to some place
pub record BeginsRecorded (header : Header) (all : List Segment) (text : List ℕ) : Type 0 where
  pub segments : List Segment
  pub rest : List Segment
  pub parts : all ≡ segments ++ rest
  pub hs : List History
  pub start : Start
  pub s : State
  pub recorded : HasRecorded header segments hs start s
  pub due : IsDueBefore header hs s rest text

-- nothing was written, or what begins such lines
abbrev pub StopsWithin : Header → List Segment → List ℕ → Type 0
StopsWithin header all written =
    (written ≡ []) ⊎ ((unwritten : List ℕ) × BeginsRecorded header all (written ++ unwritten))

-- the lines of the recorded history of these segments were written, or the writing stopped within them
pub record RecordsSegments (header : Header) (segments : List Segment) (held held' : Option (List ℕ))
    (result : Result (Unit {0}) Status) : Type 0 where
  pub written : List ℕ
  pub appends : Appends held held' written
  pub outcome : MatchResult result
      (λ _. (hs : List History) × IsRecordedHistory header segments hs × (written ≡ history_lines hs))
      (λ _. StopsWithin header segments written)

-- a part's segments may follow what a writer recorded
abbrev pub MayRecordPart : Header → List Segment → HistoryWriter → Type 0
MayRecordPart header mine writer = (segments : List Segment) × (hs : List History) × (start : Start) × (s : State)
    × (written : List ℕ) × (after : List Segment) × IsRecording header segments hs start s written writer
    × AreSegments header start (mine ++ after)

-- a writer recorded these segments, after which others may stand
pub record HasPassed (header : Header) (segments : List Segment) (hs : List History) (written : List ℕ)
    (after : List Segment) (writer : HistoryWriter) : Type 0 where
  pub start : Start
  pub s : State
  pub recording : IsRecording header segments hs start s written writer
  pub stand : AreSegments header start after

-- a part's segments were recorded after these, or the writing stopped within them
pub record RecordsPart (header : Header) (segments mine after : List Segment) (written : List ℕ)
    (writer' : HistoryWriter) (held held' : Option (List ℕ)) (result : Result (Unit {0}) Status) : Type 0 where
  pub moved : List ℕ
  pub appends : Appends held held' moved
  pub outcome : MatchResult result
      (λ _. (hs : List History) × (start : Start) × (s : State)
      × IsRecording header (segments ++ mine) hs start s (written ++ moved) writer' × AreSegments header start after)
      (λ _. StopsWithin header (segments ++ mine ++ after) (written ++ moved))

-- the line that a history begins with was written, or the writing stopped within it
pub record WritesFirstLine (held held' : Option (List ℕ)) (result : Result (Unit {0}) Status) : Type 0 where
  pub written : List ℕ
  pub appends : Appends held held' written
  pub outcome : MatchResult result (λ _. written ≡ history_line)
      (λ _. (unwritten : List ℕ) × (history_line ≡ written ++ unwritten))

-- parts of a trace: the first begins after its header, and their segments may stand where they do
pub record AreParts (parts : List TracePart) : Type 0 where
  pub header : Header
  pub header_is : header_in parts ≡ Some header
  pub valid : IsHeader header
  pub stand : AreSegments header first_start (segments_of_parts parts)

-- the history of these parts: its first line, and the lines of their recorded history
pub record IsHistoryOf (parts : List TracePart) (text : List ℕ) : Type 0 where
  pub header : Header
  pub header_is : header_in parts ≡ Some header
  pub hs : List History
  pub recorded : IsRecordedHistory header (segments_of_parts parts) hs
  pub text_is : text ≡ history_line ++ history_lines hs

-- the first line, and what begins the lines of their recorded history
pub record IsWithinHistory (parts : List TracePart) (text : List ℕ) : Type 0 where
  pub header : Header
  pub header_is : header_in parts ≡ Some header
  pub later : List ℕ
  pub text_is : text ≡ history_line ++ later
  pub stops : StopsWithin header (segments_of_parts parts) later

-- this begins the history of these parts
abbrev pub BeginsHistoryOf : List TracePart → List ℕ → Type 0
BeginsHistoryOf parts text =
    ((unwritten : List ℕ) × (history_line ≡ text ++ unwritten)) ⊎ IsWithinHistory parts text

-- the history of these parts was written, or the writing stopped within it
pub record RecordsParts (parts : List TracePart) (held held' : Option (List ℕ)) (result : Result (Unit {0}) Status)
    : Type 0 where
  pub written : List ℕ
  pub appends : Appends held held' written
  pub outcome : MatchResult result (λ _. IsHistoryOf parts written) (λ _. BeginsHistoryOf parts written)

-- how a command ends whose copy of the trace came to its end: as the copy did, with the history of the parts, or where
-- memory ran out or a write failed, with what begins it
abbrev pub GoesOnWith : List TracePart → Status → Status → List ℕ → Type 0
GoesOnWith parts ended status history = ((status ≡ ended) × IsHistoryOf parts history)
    ⊎ (((status ≡ Memory) ⊎ (status ≡ WriteFault)) × BeginsHistoryOf parts history)

pub record RecordsAfter {K : Type 0} (held : K → Option (List ℕ)) (faults calls : K → ℕ) (ended : Status)
    (parts : List TracePart) (out out' : K) (status : Status) : Type 0 where
  pub history : List ℕ
  pub appends : Appends (held out) (held out') history
  pub goes_on : GoesOnWith parts ended status history
  pub writes : FaultsOfSink held faults calls status out out'

-- what follows a copy that ended so: the history where it came to the end of the trace, and else nothing
abbrev pub AfterCopy : {K : Type 0} → (K → Option (List ℕ)) → (K → ℕ) → (K → ℕ) → Status → List TracePart → K → K
    → Status → Type 0
AfterCopy held faults calls Done parts out out' status = RecordsAfter held faults calls Done parts out out' status
AfterCopy held faults calls Refused parts out out' status = RecordsAfter held faults calls Refused parts out out' status
AfterCopy held faults calls ended parts out out' status = (out' ≡ out) × (status ≡ ended)

-- then its parts are those of a trace
abbrev pub MayFollow : Status → List TracePart → Type 0
MayFollow Done parts = AreParts parts
MayFollow Refused parts = AreParts parts
MayFollow ended parts = Unit {0}
