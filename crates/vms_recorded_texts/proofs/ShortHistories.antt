-- A text of recorded histories has a line for each event.
use Rattle.std.proofs.Common.{ℕ, suc, ◌+◌, ◌<◌, ◌≤◌, ◌^◌, ◌==◌, List, [], ◌∷◌, ◌++◌, length, length-append, sym, ap}
use Rattle.std.proofs.Common.{◌∙◌, append_assoc, arith, subst}
use Rattle.std.proofs.lemmas.List.Elements.{All-cons, All-nil}
use Rattle.std.proofs.lemmas.List.Splits.{length-slice_split}
use Rattle.std.specs.List.{slice_split}
use Rattle.std.specs.Prelude.{codes, decimal}
use Rattle.vms_core.specs.Pages.{History}
use Rattle.vms_text.specs.Words.{joined}
use Rattle.vms_world.specs.Common.{lines_of, sentence}
use Rattle.vms_text.proofs.Common.{lines_of-ended}
use Rattle.vms_phase_lines.specs.Common.{event_lines}
use Rattle.vms_written_lines.specs.Spelling.{event_line, phase_line, step_words}
use Rattle.vms_written_lines.specs.WideSteps.{widened}
use Rattle.vms_recorded.specs.Histories.{history_lines, phase_lines}
use Rattle.vms_recorded_texts.specs.RecordedTexts.{AreShort}

-- what follows the end of a line has its lines, and there is one more
later-lines : (before rest : List ℕ) → suc (length (lines_of rest)) ≤ length (lines_of (before ++ 10 ∷ rest))
later-lines before rest =
    let parts = slice_split (λ byte. byte == 10) before in
    omega (
      arith,
      ap (λ (lines : List (List ℕ)). length lines) (lines_of-ended before rest),
      length-append parts (lines_of rest),
      length-slice_split (λ byte. byte == 10) before,
    )

-- so of a line of words
sentence-line : (words : List (List ℕ)) (rest : List ℕ)
    → suc (length (lines_of rest)) ≤ length (lines_of (sentence words ++ rest))
sentence-line words rest =
    subst (λ (text : List ℕ). suc (length (lines_of rest)) ≤ length (lines_of text))
    (sym (append_assoc (joined words) (10 ∷ []) rest)) (later-lines (joined words) rest)

-- after other bytes
pub sentence-lines : (before : List ℕ) (words : List (List ℕ)) (rest : List ℕ)
    → suc (length (lines_of rest)) ≤ length (lines_of (before ++ sentence words ++ rest))
sentence-lines before words rest =
    subst (λ (text : List ℕ). suc (length (lines_of rest)) ≤ length (lines_of text))
    (sym (ap (λ (text : List ℕ). text ++ rest) (sym (append_assoc before (joined words) (10 ∷ [])))
    ∙ append_assoc (before ++ joined words) (10 ∷ []) rest)) (later-lines (before ++ joined words) rest)

events-lines : (h : History) (rest : List ℕ)
    → length h + length (lines_of rest) ≤ length (lines_of (event_lines h ++ rest))
events-lines [] rest = omega arith
events-lines (e ∷ h) rest =
    let one = event_line e.caller (widened e.step) in
    subst (λ (text : List ℕ). suc (length h) + length (lines_of rest) ≤ length (lines_of text))
    (sym (append_assoc (event_lines h) one rest))
    (omega (
      arith,
      events-lines h (one ++ rest),
      sentence-line (decimal e.caller ∷ step_words (widened e.step)) rest,
    ))

phase-line : (h : History) (rest : List ℕ)
    → suc (length h + length (lines_of rest)) ≤ length (lines_of (phase_lines h ++ rest))
phase-line h rest =
    subst (λ (text : List ℕ). suc (length h + length (lines_of rest)) ≤ length (lines_of text))
    (sym (append_assoc phase_line (event_lines h) rest))
    (omega (arith, events-lines h rest, sentence-line (codes "phase" ∷ []) (event_lines h ++ rest)))

pub histories-short : (hs : List History) → length (lines_of (history_lines hs)) < 2 ^ 32 → AreShort hs
histories-short [] few = All-nil (λ h. length h < 2 ^ 32)
histories-short (h ∷ hs) few =
    let lines = phase-line h (history_lines hs) in
    All-cons (λ h. length h < 2 ^ 32) h hs (omega (arith, lines, few)) (histories-short hs (omega (arith, lines, few)))

-- and a byte at least
events-bytes : (h : History) → length h ≤ length (event_lines h)
events-bytes [] = omega arith
events-bytes (e ∷ h) =
    let words = decimal e.caller ∷ step_words (widened e.step) in
    omega (
      arith,
      events-bytes h,
      length-append (event_lines h) (sentence words),
      length-append (joined words) (10 ∷ []),
    )

pub histories-few_bytes : (hs : List History) → length (history_lines hs) < 2 ^ 32 → AreShort hs
histories-few_bytes [] few = All-nil (λ h. length h < 2 ^ 32)
histories-few_bytes (h ∷ hs) few =
    let whole = length-append (phase_lines h) (history_lines hs) in
    let phase = length-append phase_line (event_lines h) in
    let events = events-bytes h in
    All-cons (λ h. length h < 2 ^ 32) h hs (omega (arith, whole, phase, events, few))
    (histories-few_bytes hs (omega (arith, whole, few)))
