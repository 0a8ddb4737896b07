-- The numbers that a command keeps of the lines of a body.
use Rattle.std.specs.Prelude.{◌≡◌, ℕ, suc, List, length, not, Option, None, Result, Ok, Err}
use Rattle.vms_command.specs.Common.{exceeds}
use Rattle.vms_group_lines.specs.declared.causes.GroupCause.{GroupCause}
use Rattle.vms_group_lines.specs.declared.lines.GroupLine.{GroupLine}
use Rattle.vms_group_lines.specs.Common.{with_group_line}
use Rattle.vms_stream.specs.declared.statuses.Status.{Status}
use Rattle.vms_groups.specs.declared.tallies.Tally.{Tally}
use Rattle.vms_groups.specs.GroupLimits.{exceeds_limit, opens_phase, phases_in, reports_in}

-- the numbers are those of these lines that count, the newest first, and of so many refused ones
pub record IsTallyOf (lines : List GroupLine) (refused : ℕ) (tally : Tally) : Type 0 where
  pub accepted : tally.accepted ≡ length lines
  pub refused_is : tally.refused ≡ refused
  pub phases : tally.phases ≡ phases_in lines
  pub reports : tally.reports ≡ reports_in lines
  pub in_phase : tally.in_phase ≡ not (opens_phase lines)

-- so many lines are refused with this one
abbrev pub more_refused : Result GroupLine GroupCause → ℕ → ℕ
more_refused (Ok line) refused = refused
more_refused (Err cause) refused = suc refused

-- a line was added, by what was judged of it, unless it exceeds a limit
pub record Adds (lines : List GroupLine) (refused : ℕ) (judged : Result GroupLine GroupCause) (halt : Option Status)
    (tally : Tally) : Type 0 where
  pub halt_is : halt ≡ exceeds (exceeds_limit lines judged)
  pub tells : halt ≡ None → IsTallyOf (with_group_line judged lines) (more_refused judged refused) tally
