-- The limits on the lines of a trace of groups: those of other traces.
use Rattle.std.specs.Prelude.{ℕ, suc, nat_le, ◌&&◌, if◌then◌else◌, Bool, true, false, List, [], ◌∷◌, Result, Ok}
use Rattle.vms_command.specs.Limits.{most_phases, most_reports}
use Rattle.vms_group_lines.specs.declared.causes.GroupCause.{GroupCause}
use Rattle.vms_group_lines.specs.declared.lines.GroupLine.{GroupLine}
use Rattle.vms_group_lines.specs.declared.lines.GroupLine.TheVariants.{Lane, Report}

-- whether a lane line opens a phase after these lines that count, the newest first: none is open at the start and after
-- a boundary line
abbrev pub opens_phase : List GroupLine → Bool
opens_phase (Lane cpu call ∷ lines) = false
opens_phase _ = true

-- how many phases these lines opened
abbrev pub phases_in : List GroupLine → ℕ
phases_in [] = 0
phases_in (Lane cpu call ∷ lines) = if opens_phase lines then suc (phases_in lines) else phases_in lines
phases_in (line ∷ lines) = phases_in lines

-- how many of these lines are reports
abbrev pub reports_in : List GroupLine → ℕ
reports_in [] = 0
reports_in (Report ∷ lines) = suc (reports_in lines)
reports_in (line ∷ lines) = reports_in lines

-- whether a line that counts exceeds the limit on phases or on reports, after these lines that count
abbrev pub exceeds_limit : List GroupLine → Result GroupLine GroupCause → Bool
exceeds_limit lines (Ok (Lane cpu call)) = opens_phase lines && nat_le most_phases (phases_in lines)
exceeds_limit lines (Ok Report) = nat_le most_reports (reports_in lines)
exceeds_limit lines _ = false
