-- The lines of events that follow others, in a phase.
use Rattle.std.proofs.Common.{◌≡◌, ℕ, List, [], ◌∷◌, ◌++◌, append-nil, append_assoc, ap, sym, ◌∙◌}
use Rattle.vms_core.specs.Pages.{History}
use Rattle.vms_phase_lines.specs.Common.{event_lines}
use Rattle.vms_recorded.specs.Histories.{phase_lines}
use Rattle.vms_written_lines.specs.Spelling.{event_line, phase_line}
use Rattle.vms_written_lines.specs.WideSteps.{widened}

pub event_lines-append : (more h : History) → event_lines (more ++ h) ≡ event_lines h ++ event_lines more
event_lines-append [] h = sym (append-nil (event_lines h))
event_lines-append (e ∷ more) h =
    ap (λ (text : List ℕ). text ++ event_line e.caller (widened e.step)) (event_lines-append more h)
    ∙ append_assoc (event_lines h) (event_lines more) (event_line e.caller (widened e.step))

-- a text whose rest goes on
pub text-more : (text moved rest more later : List ℕ) → moved ++ rest ≡ text → later ≡ rest ++ more
    → moved ++ later ≡ text ++ more
text-more text moved rest more later whole goes_on =
    ap (λ (bytes : List ℕ). moved ++ bytes) goes_on ∙ sym (append_assoc moved rest more)
    ∙ ap (λ (bytes : List ℕ). bytes ++ more) whole

-- one of whose rest the front is written
pub front-moved : (text moved rest front back : List ℕ) → moved ++ rest ≡ text → rest ≡ front ++ back
    → (moved ++ front) ++ back ≡ text
front-moved text moved rest front back whole parts =
    append_assoc moved front back ∙ ap (λ (bytes : List ℕ). moved ++ bytes) (sym parts) ∙ whole

-- more events after these
pub events-more : (before : List ℕ) (more h : History)
    → (before ++ event_lines h) ++ event_lines more ≡ before ++ event_lines (more ++ h)
events-more before more h =
    append_assoc before (event_lines h) (event_lines more)
    ∙ ap (λ (text : List ℕ). before ++ text) (sym (event_lines-append more h))

pub phase_lines-more : (before : List ℕ) (more h : History)
    → (before ++ phase_lines h) ++ event_lines more ≡ before ++ phase_lines (more ++ h)
phase_lines-more before more h =
    append_assoc before (phase_lines h) (event_lines more)
    ∙ ap (λ (text : List ℕ). before ++ text) (append_assoc phase_line (event_lines h) (event_lines more)
    ∙ ap (λ (text : List ℕ). phase_line ++ text) (sym (event_lines-append more h)))
