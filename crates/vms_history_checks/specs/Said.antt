-- The lists of page events that the lines of a written history say, the newest list first, and in each the newest event
-- first.
use Rattle.std.specs.Prelude.{ℕ, List, [], ◌∷◌, Option, Some, None, option_and_then}
use Rattle.vms_world.specs.Common.{Step}
use Rattle.vms_core.specs.Pages.{History}
use Rattle.vms_written_lines.specs.declared.lines.WrittenLine.{WrittenLine}
use Rattle.vms_written_lines.specs.declared.lines.WrittenLine.TheVariants.{Blank, Event, Phase}
use Rattle.vms_written_lines.specs.WideSteps.{step_of}

-- one event more: nothing before the first phase, nor where its numbers are no step's
abbrev pub with_step : ℕ → Option Step → List History → Option (List History)
with_step caller None hs = None
with_step caller (Some step) [] = None
with_step caller (Some step) (h ∷ older) = Some ((record { caller = caller; step = step } ∷ h) ∷ older)

-- one line more: nothing where it isn't in form
abbrev pub with_said : Option WrittenLine → List History → Option (List History)
with_said None hs = None
with_said (Some Blank) hs = Some hs
with_said (Some Phase) hs = Some ([] ∷ hs)
with_said (Some (Event caller wide)) hs = with_step caller (step_of wide) hs

-- more lines, in turn
abbrev pub with_lines : List (Option WrittenLine) → List History → Option (List History)
with_lines [] hs = Some hs
with_lines (said ∷ more) hs = option_and_then (with_lines more) (with_said said hs)
