-- The lines of page events.
use Rattle.std.specs.Prelude.{ℕ, List, [], ◌∷◌, ◌++◌}
use Rattle.vms_core.specs.Pages.{History}
use Rattle.vms_written_lines.specs.Spelling.{event_line}
use Rattle.vms_written_lines.specs.WideSteps.{widened}

-- those of these events, the oldest first
abbrev pub event_lines : History → List ℕ
event_lines [] = []
event_lines (e ∷ h) = event_lines h ++ event_line e.caller (widened e.step)
