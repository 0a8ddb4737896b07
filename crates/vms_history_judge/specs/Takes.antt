-- Why a line of a history wasn't taken.
use Rattle.std.specs.Prelude.{List, Option, ℕ}
use Rattle.vms_core.specs.Pages.{History}
use Rattle.vms_world.specs.Common.{Header, Segment, ZoneSize}
use Rattle.vms_written_lines.specs.declared.lines.WrittenLine.{WrittenLine}
use Rattle.vms_history_checks.specs.Accepts.{IsLineFault}
use Rattle.vms_history_checks.specs.declared.errors.CheckError.{CheckError}
use Rattle.vms_history_checks.specs.declared.errors.CheckError.TheVariants as checks
use Rattle.vms_certifying.specs.declared.errors.JudgeError.{JudgeError}
use Rattle.vms_certifying.specs.declared.errors.JudgeError.TheVariants.{Fault, Memory}

-- the line is at fault. Nothing is said where memory ran out
abbrev pub IsSaidFault : (pressure normal : ZoneSize → ℕ → ℕ → Type 0) → Header → List Segment → List History
    → Option WrittenLine → JudgeError → Type 0
IsSaidFault pressure normal header segments hs said (Fault cause) =
    IsLineFault pressure normal header segments hs said cause
IsSaidFault pressure normal header segments hs said Memory = Unit {0}

-- the error of a judge for that of its check
abbrev pub same_error : CheckError → JudgeError
same_error (checks.Fault cause) = Fault cause
same_error checks.Memory = Memory
