-- What a judge of written histories says of the lines of a text.
use Rattle.std.specs.Prelude.{ℕ, List}
use Rattle.vms_base.specs.declared.headers.Header.{Header}
use Rattle.vms_script.specs.Common.{Segment}
use Rattle.vms_phase_checks.specs.declared.faults.EventCause.{EventCause}

-- when lines are a history of the segments of a trace, whose header this is
pub record HistoryRules : Type 1 where
  -- no line is at fault so far
  pub Begins : Header → List Segment → List (List ℕ) → Type 0
  -- after these lines the next one is at fault, with this cause
  pub IsFault : Header → List Segment → List (List ℕ) → List ℕ → EventCause → Type 0
  -- the lines are a whole history, of so many phases and events
  pub IsWhole : Header → List Segment → List (List ℕ) → (phases events : ℕ) → Type 0
