-- What waits is written, or its front.
use Rattle.std.proofs.Common.{◌≡◌, ℕ, ◌≤◌, List, [], ◌++◌, Option, ap, append_assoc, arith, length, subst, sym, ◌∙◌}
use Rattle.std.specs.Prelude.{Err, Ok, OnOk, Result}
use Rattle.vms_core.specs.Pages.{History}
use Rattle.vms_recorded.specs.Histories.{history_lines}
use Rattle.vms_stream.specs.declared.statuses.Status.{Status}
use Rattle.vms_world.specs.Common.{Header, Segment, Start, State}
use Rattle.vms_recording.specs.Common.{Flushes, IsRecording, WritesFront, most_waiting}
use Rattle.vms_recording.specs.declared.writers.HistoryWriter.{HistoryWriter}

module _ (header : Header) (segments : List Segment) (hs : List History) (start : Start) (s : State)
    (written : List ℕ) (writer : HistoryWriter) (is : IsRecording header segments hs start s written writer)
    (writer' : HistoryWriter) (same : writer'.pages ≡ writer.pages) (held held' : Option (List ℕ)) where
  text : (moved rest : List ℕ) → writer.waiting.items ≡ moved ++ rest
      → (written ++ moved) ++ rest ≡ history_lines hs
  text moved rest parts =
      append_assoc written moved rest ∙ ap (λ (bytes : List ℕ). written ++ bytes) (sym parts) ∙ is.lines

  pub Flushes-written : (result : Result (Unit {0}) Status)
      → WritesFront writer.waiting.items held held' (λ rest. OnOk result (writer'.waiting.items ≡ rest))
      → OnOk result (writer'.waiting.items ≡ []) → Flushes header segments hs start s written writer' held held' result
  Flushes-written (Ok _) writes empty = record {
    moved = writes.moved;
    appends = writes.appends;
    outcome = (
      record {
        recorded = is.recorded;
        pages = same ∙ is.pages;
        lines = ap (λ (bytes : List ℕ). (written ++ writes.moved) ++ bytes) writes.kept
            ∙ text writes.moved writes.rest writes.parts;
        few = subst (λ (bytes : List ℕ). length bytes ≤ most_waiting) (sym empty) (omega arith);
      },
      empty,
    );
  }
  Flushes-written (Err _) writes empty = record {
    moved = writes.moved;
    appends = writes.appends;
    outcome = (writes.rest, text writes.moved writes.rest writes.parts);
  }
