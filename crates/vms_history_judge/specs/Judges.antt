-- What a judge keeps of a trace and of a history.
use Rattle.std.specs.Prelude.{◌≡◌, ℕ, List, [], Option, Some, None, length}
use Rattle.vms_core.specs.Pages.{History}
use Rattle.vms_world.specs.Common.{Act, Header, Lane, Segment, State, ZoneSize}
use Rattle.vms_history_checks.specs.declared.checks.HistoryCheck.{HistoryCheck}
use Rattle.vms_history_checks.specs.Accepts.{Accepts}
use Rattle.vms_history_checks.specs.Bounds.{bounds_of, scripts_of}
use Rattle.vms_history_judge.specs.declared.judges.Judge.{Judge}
use Rattle.vms_history_judge.specs.WrittenRules.{lists_of}

-- these segments were given
pub record GathersSegments {W : Type 0} (header : Header) (segments : List Segment) (judge : Judge W) : Type 0 where
  pub bounds : judge.bounds.items ≡ bounds_of 0 segments
  pub scripts : judge.phases.items ≡ scripts_of segments

-- of a trace with these segments these lines of a history were taken
pub record AcceptsLines {W : Type 0} (Stands : Header → State → Lane → ℕ → List Act → History → W → Type 0)
    (pressure normal : ZoneSize → ℕ → ℕ → Type 0) (header : Header) (segments : List Segment)
    (lines : List (List ℕ)) (judge : Judge W) : Type 0 where
  pub check : HistoryCheck W
  pub here : judge.check ≡ Some check
  pub lists : List History
  pub says : lists_of header lines ≡ Some lists
  pub accepts : Accepts Stands pressure normal header segments lists check
  pub counted : check.lines ≡ length lines
