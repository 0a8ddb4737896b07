-- One part of a trace: its boundary line, and its phase.
use Rattle.std.proofs.Common.{◌≡◌, ◌≢◌, ◌∙◌, ℕ, List, [], ◌∷◌, ◌++◌, append-nil, append_assoc, Option, Some, None, ap}
use Rattle.std.proofs.Common.{map, inl, inr, refl, subst, sym}
use Rattle.std.specs.Io.KnownBytes.{Appends}
use Rattle.std.proofs.KnownBytes.{Appends-nil, Appends-trans}
use Rattle.std.specs.Prelude.{Err, Ok, Result}
use Rattle.vms_core.specs.Pages.{History, state_after}
use Rattle.vms_recorded.specs.Histories.{HasRecorded, IsRecordedHistory}
use Rattle.vms_recording.specs.Common.{Flushes, IsRecording, RecordsPhase}
use Rattle.vms_recording.specs.declared.writers.HistoryWriter.{HistoryWriter}
use Rattle.vms_world.specs.Common.{AreSegments, phase_if_any, Between, Header, Item, Phase, Segment, Start, State}
use Rattle.vms_world.specs.Common.{facts_of, line_of, settled, start_at_end, start_past}
use Rattle.vms_stream.specs.declared.statuses.Status.{Status}
use Rattle.vms_text.specs.declared.acts.Boundary.{Boundary as BoundaryOf}
use Rattle.vms_text.specs.declared.acts.Line.TheVariants.{Boundary}
use Rattle.vms_trace_parts.specs.Common.{Begin, TracePart, boundary_of, header_in, segments_of_begin, segments_of_parts}
use Rattle.vms_written_lines.specs.Spelling.{history_line}
use Rattle.vms_record.specs.Histories.{HasPassed, RecordsPart, RecordsParts, RecordsSegments, StopsWithin}
use Rattle.vms_record.proofs.PartSegments.{StopsWithin-phase, phase_if_any-some, segments-bound, segments-unbound}

module _ (header : Header) (segments : List Segment) (hs : List History) (start : Start) (s : State) (written : List ℕ)
    (after : List Segment) where
  -- a part that begins with no boundary line
  pub passed-none : (begin : Begin) (writer : HistoryWriter) → IsRecording header segments hs start s written writer
      → boundary_of begin ≡ None → AreSegments header start (segments_of_begin begin ++ after)
      → HasPassed header (segments ++ segments_of_begin begin) hs written after writer
  passed-none begin writer is none stand =
      let nothing : segments_of_begin begin ≡ [] = segments-unbound begin none in
      record {
        start = start;
        s = s;
        recording = subst (λ (l : List Segment). IsRecording header l hs start s written writer)
            (sym (append-nil segments) ∙ ap (λ (l : List Segment). segments ++ l) (sym nothing)) is;
        stand = subst (λ (l : List Segment). AreSegments header start (l ++ after)) nothing stand;
      }

  module _ (begin : Begin) (number : ℕ) (boundary : BoundaryOf) (some : boundary_of begin ≡ Some (number, boundary))
      (stand : AreSegments header start (segments_of_begin begin ++ after)) where
    -- a part that begins with this one
    pub bound : AreSegments header start (Between number boundary ∷ after)
    bound = subst (λ (l : List Segment). AreSegments header start (l ++ after)) (segments-bound begin number boundary some)
        stand

    pub passed-some : (writer : HistoryWriter) → (next : State)
        × IsRecording header (segments ++ Between number boundary ∷ []) hs (start_past (Boundary boundary) start) next
        written writer
        → HasPassed header (segments ++ segments_of_begin begin) hs written after writer
    passed-some writer crossed = record {
      start = start_past (Boundary boundary) start;
      s = crossed.0;
      recording = subst (λ (l : List Segment).
          IsRecording header (segments ++ l) hs (start_past (Boundary boundary) start) crossed.0 written writer)
          (sym (segments-bound begin number boundary some)) crossed.1;
      stand = bound.1;
    }

  module _ (items : List Item) (stand : AreSegments header start (phase_if_any items ++ after)) where
    -- a part without lines
    pub kept-none : items ≡ [] → (writer : HistoryWriter) → IsRecording header segments hs start s written writer
        → (held : Option (List ℕ))
        → RecordsPart header segments (phase_if_any items) after written writer held held (Ok tt)
    kept-none none writer is held =
        let nothing : phase_if_any items ≡ [] = ap phase_if_any none in
        record {
          moved = [];
          appends = Appends-nil held;
          outcome = (
            hs,
            start,
            s,
            subst (λ (l : List Segment). IsRecording header l hs start s (written ++ []) writer)
                (sym (append-nil segments) ∙ ap (λ (l : List Segment). segments ++ l) (sym nothing))
                (subst (λ (w : List ℕ). IsRecording header segments hs start s w writer) (sym (append-nil written)) is),
            subst (λ (l : List Segment). AreSegments header start (l ++ after)) nothing stand,
          );
        }

    -- a part with lines
    module _ (some : items ≢ []) where
      phase : phase_if_any items ≡ Phase items ∷ []
      phase = phase_if_any-some items some

      pub fits : AreSegments header start (Phase items ∷ after)
      fits = subst (λ (l : List Segment). AreSegments header start (l ++ after)) phase stand

      pub RecordsPart-phase : (writer writer' : HistoryWriter) → IsRecording header segments hs start s written writer
          → (held held' : Option (List ℕ)) (result : Result (Unit {0}) Status)
          → RecordsPhase header segments hs start s written items writer' held held' result
          → RecordsPart header segments (phase_if_any items) after written writer' held held' result
      RecordsPart-phase writer writer' is held held' (Ok u) records =
          let made = records.outcome in
          record {
            moved = records.moved;
            appends = records.appends;
            outcome = (
              hs ++ made.0 ∷ [],
              start_at_end start (map line_of items),
              settled (state_after (facts_of header s) made.0),
              subst (λ (l : List Segment). IsRecording header (segments ++ l) (hs ++ made.0 ∷ [])
                  (start_at_end start (map line_of items)) (settled (state_after (facts_of header s) made.0))
                  (written ++ records.moved) writer') (sym phase) made.2,
              fits.1,
            );
          }
      RecordsPart-phase writer writer' is held held' (Err error) records = record {
        moved = records.moved;
        appends = records.appends;
        outcome = subst (λ (l : List Segment). StopsWithin header l (written ++ records.moved))
            (ap (λ (l : List Segment). segments ++ (l ++ after)) (sym phase)
            ∙ sym (append_assoc segments (phase_if_any items) after))
            (StopsWithin-phase header segments hs start s items after (written ++ records.moved) is.recorded
            records.outcome);
      }

-- the segments of a part in two
pub RecordsPart-past : (header : Header) (segments one two after : List Segment) (written : List ℕ)
    (writer' : HistoryWriter) (held held' : Option (List ℕ)) (result : Result (Unit {0}) Status)
    → RecordsPart header (segments ++ one) two after written writer' held held' result
    → RecordsPart header segments (one ++ two) after written writer' held held' result
RecordsPart-past header segments one two after written writer' held held' (Ok u) records =
    let went = records.outcome in
    record {
      moved = records.moved;
      appends = records.appends;
      outcome = (
        went.0,
        went.1,
        went.2,
        subst (λ (l : List Segment). IsRecording header l went.0 went.1 went.2 (written ++ records.moved) writer')
            (append_assoc segments one two) went.3,
        went.4,
      );
    }
RecordsPart-past header segments one two after written writer' held held' (Err error) records = record {
  moved = records.moved;
  appends = records.appends;
  outcome = subst (λ (l : List Segment). StopsWithin header (l ++ after) (written ++ records.moved))
      (append_assoc segments one two) records.outcome;
}

-- all parts were recorded, and what waited was written
module _ (header : Header) (all : List Segment) (goes_on : (segments : List Segment) (hs : List History) (start : Start)
    (s : State) → HasRecorded header segments hs start s → IsRecordedHistory header segments hs)
    (held held' held'' : Option (List ℕ)) (writer writer' : HistoryWriter) (u : Unit {0})
    (records : RecordsPart header [] all [] [] writer held held' (Ok u)) where
  pub RecordsSegments-flushed : (result : Result (Unit {0}) Status)
      → ((segments : List Segment) (hs : List History) (start : Start) (s : State) (written : List ℕ)
      → IsRecording header segments hs start s written writer
      → Flushes header segments hs start s written writer' held' held'' result)
      → RecordsSegments header all held held'' result
  RecordsSegments-flushed (Ok v) flushes =
      let went = records.outcome in
      let last = flushes all went.0 went.1 went.2 records.moved went.3 in
      let is = last.outcome.0 in
      record {
        written = records.moved ++ last.moved;
        appends = Appends-trans held held' held'' records.moved last.moved records.appends last.appends;
        outcome = (
          went.0,
          goes_on all went.0 went.1 went.2 is.recorded,
          sym (append-nil (records.moved ++ last.moved))
              ∙ ap (λ (waits : List ℕ). (records.moved ++ last.moved) ++ waits) (sym last.outcome.1) ∙ is.lines,
        );
      }
  RecordsSegments-flushed (Err error) flushes =
      let went = records.outcome in
      let last = flushes all went.0 went.1 went.2 records.moved went.3 in
      record {
        written = records.moved ++ last.moved;
        appends = Appends-trans held held' held'' records.moved last.moved records.appends last.appends;
        outcome = inr (
          last.outcome.0,
          record {
            segments = all;
            rest = [];
            parts = sym (append-nil all);
            hs = went.0;
            start = went.1;
            s = went.2;
            recorded = went.3.recorded;
            due = last.outcome.1;
          },
        );
      }

-- the first line, and then the lines of the histories
pub RecordsParts-joined : (parts : List TracePart) (header : Header) → header_in parts ≡ Some header
    → (held held' held'' : Option (List ℕ)) (line : List ℕ) → Appends held held' line → line ≡ history_line
    → (result : Result (Unit {0}) Status) → RecordsSegments header (segments_of_parts parts) held' held'' result
    → RecordsParts parts held held'' result
RecordsParts-joined parts header is held held' held'' line appends same (Ok u) records =
    let history = records.outcome in
    record {
      written = line ++ records.written;
      appends = Appends-trans held held' held'' line records.written appends records.appends;
      outcome = record {
        header = header;
        header_is = is;
        hs = history.0;
        recorded = history.1;
        text_is = ap (λ (l : List ℕ). l ++ records.written) same ∙ ap (λ (l : List ℕ). history_line ++ l) history.2;
      };
    }
RecordsParts-joined parts header is held held' held'' line appends same (Err error) records = record {
  written = line ++ records.written;
  appends = Appends-trans held held' held'' line records.written appends records.appends;
  outcome = inr (record {
    header = header;
    header_is = is;
    later = records.written;
    text_is = ap (λ (l : List ℕ). l ++ records.written) same;
    stops = records.outcome;
  });
}
