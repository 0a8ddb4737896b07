-- The lines of the steps of a caller, and those of a call that the control pass makes on plain page counters.
use Rattle.std.specs.Prelude.{◌≡◌, ℕ, List, [], ◌∷◌, ◌++◌}
use Rattle.vms_calls.specs.Common.{Header, History, State, Step}
use Rattle.vms_plain_control.specs.Common.{ControlCall, Controls}
use Rattle.vms_plain_control.specs.Control.{Makes}
use Rattle.vms_written_lines.specs.Spelling.{event_line}
use Rattle.vms_written_lines.specs.WideSteps.{widened}

abbrev pub step_lines : ℕ → List Step → List ℕ
step_lines p [] = []
step_lines p (step ∷ steps) = event_line p (widened step) ++ step_lines p steps

-- wherever the control pass may act and knows this state and these peaks, it makes the steps of a call, which lead to
-- the next ones; the text goes on with the lines of these steps, under the number of a caller
abbrev pub ControlWrites : Header → ControlCall → ℕ → State → List ℕ → State → List ℕ → List ℕ → List ℕ → Type 0
ControlWrites header IsCall caller s peaks next known out out' = (base : State) (h : History) (p : ℕ)
    → Controls header base h p s peaks
    → (made : Makes header IsCall s next known base h p) × (out' ≡ out ++ step_lines caller made.0)
