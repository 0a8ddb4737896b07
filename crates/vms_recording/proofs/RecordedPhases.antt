-- A phase that is recorded, or in which the writing stops.
use Rattle.std.proofs.Common.{◌≡◌, ◌⊎◌, ℕ, ◌≤◌, List, [], ◌∷◌, ◌++◌, Option, ap, append_assoc, inl, inr, length, map}
use Rattle.std.proofs.Common.{subst, sym, ◌∙◌}
use Rattle.std.specs.Prelude.{Err, Ok, Some}
use Rattle.vms_core.specs.Pages.{History, state_after}
use Rattle.vms_phase_lines.specs.Common.{IsPhaseInOrder}
use Rattle.vms_recorded.specs.Histories.{HasRecorded, history_lines, phase_lines}
use Rattle.vms_stream.specs.declared.statuses.Status.{Status}
use Rattle.vms_world.specs.Common.{Header, Item, Phase, Segment, Start, State, facts_of, line_of, settled, start_at_end}
use Rattle.vms_recording.specs.Common.{IsPartOfPhase, IsRecording, RecordsPhase, StopsInPhase, most_waiting}
use Rattle.vms_recording.specs.Common.{WritesPhase}
use Rattle.vms_recording.specs.declared.writers.HistoryWriter.{HistoryWriter}

-- a text that goes on after what had been written before
text-after : (before written waiting more moved rest : List ℕ) → written ++ waiting ≡ before
    → moved ++ rest ≡ waiting ++ more → (written ++ moved) ++ rest ≡ before ++ more
text-after before written waiting more moved rest whole goes_on =
    append_assoc written moved rest ∙ ap (λ (bytes : List ℕ). written ++ bytes) goes_on
    ∙ sym (append_assoc written waiting more) ∙ ap (λ (bytes : List ℕ). bytes ++ more) whole

-- a writer has one state
pub one-state : (found : Option State) (s other : State) → found ≡ Some s → found ≡ Some other → s ≡ other
one-state found s other first second = cc

module _ (header : Header) (segments : List Segment) (hs : List History) (start : Start) (s : State)
    (written : List ℕ) (writer : HistoryWriter) (is : IsRecording header segments hs start s written writer)
    (items : List Item) (waiting' : List ℕ) (held held' : Option (List ℕ)) where
  -- the writing stops
  pub RecordsPhase-stopped : (base : State) → base ≡ s → (lines : List Item) → lines ≡ items → (error : Status)
      → WritesPhase header base lines writer.waiting.items waiting' held held' (Err error)
      → (writer' : HistoryWriter) (told : Status)
      → RecordsPhase header segments hs start s written items writer' held held' (Err told)
  RecordsPhase-stopped base same lines one error begun writer' told = record {
    moved = made.moved;
    appends = made.appends;
    outcome = by made.outcome;
  }
    where
      made : WritesPhase header s items writer.waiting.items waiting' held held' (Err error)
      made = subst (λ (t : State). WritesPhase header t items writer.waiting.items waiting' held held' (Err error)) same
          (subst (λ (is : List Item). WritesPhase header base is writer.waiting.items waiting' held held' (Err error))
          one begun)

      by : (made.moved ≡ []) ⊎ ((h : History) × (rest : List ℕ) × IsPartOfPhase header s items h
          × (made.moved ++ rest ≡ writer.waiting.items ++ phase_lines h))
          → StopsInPhase header hs s items (written ++ made.moved)
      by (inl none) = record {
        unwritten = writer.waiting.items;
        due = inl (append_assoc written made.moved writer.waiting.items
            ∙ ap (λ (bytes : List ℕ). written ++ (bytes ++ writer.waiting.items)) none ∙ is.lines);
      }
      by (inr (h, rest, part, text)) = record {
        unwritten = rest;
        due = inr (
          h,
          part,
          text-after (history_lines hs) written writer.waiting.items (phase_lines h) made.moved rest
              is.lines text,
        );
      }

  -- the phase is recorded
  pub RecordsPhase-whole : (next : State) → WritesPhase header s items writer.waiting.items waiting' held held' (Ok next)
      → length waiting' ≤ most_waiting
      → ((h : History) → IsPhaseInOrder header s items h → HasRecorded header (segments ++ Phase items ∷ [])
      (hs ++ h ∷ []) (start_at_end start (map line_of items)) (settled (state_after (facts_of header s) h)))
      → ((h : History) → history_lines (hs ++ h ∷ []) ≡ history_lines hs ++ phase_lines h)
      → (writer' : HistoryWriter) → writer'.pages ≡ Some next → writer'.waiting.items ≡ waiting'
      → RecordsPhase header segments hs start s written items writer' held held' (Ok (tt {0}))
  RecordsPhase-whole next made few recorded lines writer' pages waits =
      let h = made.outcome.0 in
      record {
        moved = made.moved;
        appends = made.appends;
        outcome = (
          h,
          made.outcome.1,
          record {
            recorded = recorded h made.outcome.1;
            pages = pages ∙ ap Some made.outcome.3;
            lines = ap (λ (bytes : List ℕ). (written ++ made.moved) ++ bytes) waits
                ∙ text-after (history_lines hs) written writer.waiting.items (phase_lines h) made.moved waiting'
                is.lines made.outcome.2
                ∙ sym (lines h);
            few = subst (λ (bytes : List ℕ). length bytes ≤ most_waiting) (sym waits) few;
          },
        );
      }
