-- A recorded text ends with the end of a line: its whole lines are its lines.
use Rattle.std.proofs.Common.{◌≡◌, ℕ, ◌≤◌, ◌==◌, List, [], ◌∷◌, ◌++◌, length, refl, sym, ap, ◌∙◌, append-nil}
use Rattle.std.proofs.Common.{append_assoc, arith, inl, inr, subst}
use Rattle.std.proofs.lemmas.List.{take_all}
use Rattle.std.specs.List.{slice_split}
use Rattle.std.specs.Prelude.{codes, decimal}
use Rattle.vms_core.specs.Pages.{History}
use Rattle.vms_text.specs.Words.{joined}
use Rattle.vms_world.specs.Common.{lines_of, sentence}
use Rattle.vms_text.proofs.Common.{lines_of-ended, slice_split-append}
use Rattle.vms_stream.specs.Common.{AreLinesTaken, most_bytes, whole_lines, front_of}
use Rattle.vms_stream.proofs.TwoPieces.{front_of-append}
use Rattle.vms_phase_lines.specs.Common.{event_lines}
use Rattle.vms_written_lines.specs.Spelling.{history_line, phase_line, step_words}
use Rattle.vms_written_lines.specs.WideSteps.{widened}
use Rattle.vms_recorded.specs.Histories.{history_lines, phase_lines}
use Rattle.vms_trace_parts.specs.Common.{copied_text}
use Rattle.vms_recorded_texts.specs.RecordedTexts.{recorded_text}

-- the last byte ends a line
abbrev pub EndsLine : List ℕ → Type 0
EndsLine text = (before : List ℕ) × (text ≡ before ++ 10 ∷ [])

ends-after : (before text : List ℕ) → EndsLine text → EndsLine (before ++ text)
ends-after before text (line, is) =
    (before ++ line, ap (λ (more : List ℕ). before ++ more) is ∙ sym (append_assoc before line (10 ∷ [])))

ends-sentence : (words : List (List ℕ)) → EndsLine (sentence words)
ends-sentence words = (joined words, refl)

phase-ends : (h : History) → EndsLine (phase_lines h)
phase-ends [] =
    subst EndsLine (sym (append-nil phase_line)) (ends-sentence (codes "phase" ∷ []))
phase-ends (e ∷ h) =
    ends-after phase_line (event_lines (e ∷ h)) (ends-after (event_lines h) _
    (ends-sentence (decimal e.caller ∷ step_words (widened e.step))))

histories-end : (before : List ℕ) (hs : List History) → EndsLine before → EndsLine (before ++ history_lines hs)
histories-end before [] ends = subst EndsLine (sym (append-nil before)) ends
histories-end before (h ∷ hs) ends =
    subst EndsLine (append_assoc before (phase_lines h) (history_lines hs))
    (histories-end (before ++ phase_lines h) hs (ends-after before (phase_lines h) (phase-ends h)))

pub recorded-ends : (lines : List (List ℕ)) (hs : List History) → EndsLine (recorded_text lines hs)
recorded-ends lines hs =
    histories-end (copied_text lines ++ history_line) hs
    (ends-after (copied_text lines) history_line (ends-sentence (codes "history" ∷ codes "1" ∷ [])))

-- then its whole lines are its lines
whole-ended : (text : List ℕ) → EndsLine text → whole_lines text ≡ lines_of text
whole-ended text (before, is) =
    let parts = slice_split (λ byte. byte == 10) before in
    ap whole_lines is
    ∙ ap front_of (slice_split-append (λ byte. byte == 10) before 10 [] refl)
    ∙ front_of-append parts ([] ∷ []) (omega arith)
    ∙ sym (lines_of-ended before [])
    ∙ ap lines_of (sym is)

-- and they are those that are taken
pub taken-are : (text : List ℕ) (lines : List (List ℕ)) (at_end : Type 0) → EndsLine text → length text ≤ most_bytes
    → AreLinesTaken text lines at_end → lines ≡ lines_of text
taken-are text lines at_end ends within (inl are) =
    are ∙ ap whole_lines (take_all most_bytes text within) ∙ whole-ended text ends
taken-are text lines at_end ends within (inr are) = are.2
