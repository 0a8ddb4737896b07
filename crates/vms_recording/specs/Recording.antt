-- A recorded history on its way to a sink: what was written of it, and what waits.
use Rattle.std.specs.Prelude.{◌≡◌, ◌⊎◌, ℕ, ◌≤◌, List, [], ◌∷◌, ◌++◌, length, map, Option, Some, Result, MatchResult}
use Rattle.std.specs.Io.KnownBytes.{Appends}
use Rattle.vms_core.specs.Pages.{History, state_after}
use Rattle.vms_phase_lines.specs.Common.{IsPhaseInOrder}
use Rattle.vms_recorded.specs.Histories.{HasRecorded, history_lines, phase_lines}
use Rattle.vms_stream.specs.declared.statuses.Status.{Status}
use Rattle.vms_world.specs.Common.{Header, Item, Phase, Segment, Start, State, facts_of, line_of, settled, start_at_end}
use Rattle.vms_recording.specs.declared.writers.HistoryWriter.{HistoryWriter}
use Rattle.vms_recording.specs.PhaseParts.{IsPartOfPhase}
use Rattle.vms_recording.specs.Written.{most_waiting}

-- the first segments of a text have led a writer to these page counters. What was written, and then what waits, are the
-- lines of their recorded history, and no more than 64 KiB wait
pub record IsRecording (header : Header) (segments : List Segment) (hs : List History) (start : Start) (s : State)
    (written : List ℕ) (writer : HistoryWriter) : Type 0 where
  pub recorded : HasRecorded header segments hs start s
  pub pages : writer.pages ≡ Some s
  pub lines : written ++ writer.waiting.items ≡ history_lines hs
  pub few : length writer.waiting.items ≤ most_waiting

-- this begins a text
abbrev pub IsFrontOf : List ℕ → List ℕ → Type 0
IsFrontOf text written = (unwritten : List ℕ) × (written ++ unwritten ≡ text)

module _ (header : Header) (hs : List History) (s : State) (items : List Item) where
  -- the lines of these histories, or with those of a part of the phase that follows
  abbrev pub IsDueInPhase : List ℕ → Type 0
  IsDueInPhase text = (text ≡ history_lines hs)
      ⊎ ((h : History) × IsPartOfPhase header s items h × (text ≡ history_lines hs ++ phase_lines h))

  -- what was written begins them
  pub record StopsInPhase (written : List ℕ) : Type 0 where
    pub unwritten : List ℕ
    pub due : IsDueInPhase (written ++ unwritten)

module _ (header : Header) (segments : List Segment) (hs : List History) (start : Start) (s : State)
    (written : List ℕ) where
  -- a phase of these lines more is recorded, or the writing stopped within it. Bytes were written meanwhile
  pub record RecordsPhase (items : List Item) (writer' : HistoryWriter) (held held' : Option (List ℕ))
      (result : Result (Unit {0}) Status) : Type 0 where
    pub moved : List ℕ
    pub appends : Appends held held' moved
    pub outcome : MatchResult result
        (λ _. (h : History) × IsPhaseInOrder header s items h
        × IsRecording header (segments ++ Phase items ∷ []) (hs ++ h ∷ []) (start_at_end start (map line_of items))
        (settled (state_after (facts_of header s) h)) (written ++ moved) writer')
        (λ _. StopsInPhase header hs s items (written ++ moved))

  -- what waited was written, and nothing waits, or the writing stopped within it
  pub record Flushes (writer' : HistoryWriter) (held held' : Option (List ℕ)) (result : Result (Unit {0}) Status)
      : Type 0 where
    pub moved : List ℕ
    pub appends : Appends held held' moved
    pub outcome : MatchResult result
        (λ _. IsRecording header segments hs start s (written ++ moved) writer' × (writer'.waiting.items ≡ []))
        (λ _. IsFrontOf (history_lines hs) (written ++ moved))
