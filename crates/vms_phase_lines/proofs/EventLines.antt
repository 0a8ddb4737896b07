-- The lines of events that follow others.
use Rattle.std.proofs.Common.{◌≡◌, ℕ, List, [], ◌∷◌, ◌++◌, sym, ap, ◌∙◌, append_assoc, append-nil}
use Rattle.vms_world.specs.Common.{Step, after}
use Rattle.vms_core.specs.Pages.{History}
use Rattle.vms_rating_lines.specs.Lines.{step_lines}
use Rattle.vms_written_lines.specs.Spelling.{event_line}
use Rattle.vms_written_lines.specs.WideSteps.{widened}
use Rattle.vms_phase_lines.specs.Common.{event_lines}

-- the line of one event more
pub lines-more : (out mid last : List ℕ) (h : History) (p : ℕ) (step : Step) → mid ≡ out ++ event_lines h
    → last ≡ mid ++ event_line p (widened step)
    → last ≡ out ++ event_lines (record { caller = p; step = step } ∷ h)
lines-more out mid last h p step before line =
    line ∙ ap (λ (text : List ℕ). text ++ event_line p (widened step)) before
    ∙ append_assoc out (event_lines h) (event_line p (widened step))

lines-after : (p : ℕ) (steps : List Step) (h : History)
    → event_lines (after p steps h) ≡ event_lines h ++ step_lines p steps
lines-after p [] h = sym (append-nil (event_lines h))
lines-after p (step ∷ steps) h =
    lines-after p steps (record { caller = p; step = step } ∷ h)
    ∙ append_assoc (event_lines h) (event_line p (widened step)) (step_lines p steps)

-- the lines of steps that one caller makes
pub lines-of_steps : (p : ℕ) (steps : List Step) → step_lines p steps ≡ event_lines (after p steps [])
lines-of_steps p steps = sym (lines-after p steps [])
