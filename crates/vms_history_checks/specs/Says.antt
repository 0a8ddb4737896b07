-- What a line after `history 1` makes of a check.
use Rattle.std.specs.Prelude.{◌≡◌, ℕ, ◌+◌, List, Option, Some, Result, MatchResult}
use Rattle.vms_world.specs.Common.{Segment, Act, Header, Lane, State, ZoneSize}
use Rattle.vms_core.specs.Pages.{History}
use Rattle.vms_written_lines.specs.declared.lines.WrittenLine.{WrittenLine}
use Rattle.vms_written_lines.specs.declared.lines.WrittenLine.TheVariants.{Phase}
use Rattle.vms_history_checks.specs.Accepts.{Accepts, IsLineFault, MayBegin}
use Rattle.vms_history_checks.specs.Said.{with_said}
use Rattle.vms_history_checks.specs.declared.checks.HistoryCheck.{HistoryCheck}
use Rattle.vms_history_checks.specs.declared.errors.CheckError.{CheckError}
use Rattle.vms_history_checks.specs.declared.errors.CheckError.TheVariants.{Fault, Memory}

module _ {W : Type 0} (Stands : Header → State → Lane → ℕ → List Act → History → W → Type 0)
    (pressure normal : ZoneSize → ℕ → ℕ → Type 0) (header : Header) where
  -- some lists of some segments are what the check has accepted
  abbrev pub MaySay : HistoryCheck W → Type 0
  MaySay check = (segments : List Segment) × (hs : List History)
      × Accepts Stands pressure normal header segments hs check

  module _ (segments : List Segment) (hs : List History) (said : Option WrittenLine) where
    -- a fault of the line, or want of memory where a phase may begin
    abbrev pub IsSaidError : CheckError → Type 0
    IsSaidError (Fault cause) = IsLineFault pressure normal header segments hs said cause
    IsSaidError Memory = (said ≡ Some Phase) × MayBegin pressure normal header segments hs

    -- the line is taken, or at fault, and nothing changes then
    abbrev pub Says : HistoryCheck W → HistoryCheck W → Result (Unit {0}) CheckError → Type 0
    Says old new result = MatchResult result
        (λ _. (next : List History) × (with_said said hs ≡ Some next)
        × Accepts Stands pressure normal header segments next new × (new.lines ≡ old.lines + 1))
        (λ error. (new ≡ old) × IsSaidError error)
