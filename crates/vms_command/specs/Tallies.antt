-- The numbers that a command keeps of the lines of a body.
use Rattle.std.specs.Prelude.{◌≡◌, length, not, Option, None, Result}
use Rattle.vms_text.specs.declared.acts.Line.{Line}
use Rattle.vms_line.specs.declared.causes.LineCause.{LineCause}
use Rattle.vms_stream.specs.declared.statuses.Status.{Status}
use Rattle.vms_command.specs.declared.tallies.Tally.{Tally}
use Rattle.vms_command.specs.Commands.{exceeds}
use Rattle.vms_command.specs.Limits.{opens_phase, exceeds_limit, phases_in, reports_in}
use Rattle.vms_command.specs.Lines.{LinesAbove, with_judged}

-- the numbers are those of what the lines came to
pub record IsTallyOf (above : LinesAbove) (tally : Tally) : Type 0 where
  pub accepted : tally.accepted ≡ length above.lines
  pub refused : tally.refused ≡ above.refused
  pub phases : tally.phases ≡ phases_in above.lines
  pub reports : tally.reports ≡ reports_in above.lines
  pub in_phase : tally.in_phase ≡ not (opens_phase above.lines)

-- a line was added to what the lines came to, by what was judged of it, unless it exceeds a limit
pub record Adds (above : LinesAbove) (result : Result Line LineCause) (halt : Option Status) (tally : Tally)
    : Type 0 where
  pub halt_is : halt ≡ exceeds (exceeds_limit above.lines result)
  pub tells : halt ≡ None → IsTallyOf (with_judged result above) tally
