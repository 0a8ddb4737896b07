-- The limits on the lines of an input.
use Rattle.std.specs.Prelude.{ℕ, suc, nat_le, ◌&&◌, if◌then◌else◌, Bool, true, false, List, [], ◌∷◌, Result, Ok}
use Rattle.vms_text.specs.declared.acts.Boundary.{Boundary as BoundaryOf}
use Rattle.vms_text.specs.declared.acts.Boundary.TheVariants.{Report}
use Rattle.vms_text.specs.declared.acts.Line.{Line}
use Rattle.vms_text.specs.declared.acts.Line.TheVariants.{Lane, Boundary}
use Rattle.vms_line.specs.declared.causes.LineCause.{LineCause}

-- the most lines of an input
abbrev pub most_lines : ℕ
most_lines = 1000000

-- the most phases that have a lane line
abbrev pub most_phases : ℕ
most_phases = 10000

-- the most reports
abbrev pub most_reports : ℕ
most_reports = 1000

-- whether a lane line opens a phase after these lines that count, the newest first: none is open at the start and after
-- a boundary line
abbrev pub opens_phase : List Line → Bool
opens_phase (Lane lane act ∷ lines) = false
opens_phase _ = true

-- how many phases these lines opened
abbrev pub phases_in : List Line → ℕ
phases_in [] = 0
phases_in (Lane lane act ∷ lines) = if opens_phase lines then suc (phases_in lines) else phases_in lines
phases_in (line ∷ lines) = phases_in lines

-- whether a boundary line is a report
abbrev pub is_report : BoundaryOf → Bool
is_report (Report kind) = true
is_report _ = false

-- how many of these lines are reports
abbrev pub reports_in : List Line → ℕ
reports_in [] = 0
reports_in (Boundary boundary ∷ lines) = if is_report boundary then suc (reports_in lines) else reports_in lines
reports_in (line ∷ lines) = reports_in lines

-- whether a line that counts exceeds the limit on phases or on reports, after these lines that count
abbrev pub exceeds_limit : List Line → Result Line LineCause → Bool
exceeds_limit lines (Ok (Lane lane act)) = opens_phase lines && nat_le most_phases (phases_in lines)
exceeds_limit lines (Ok (Boundary boundary)) = is_report boundary && nat_le most_reports (reports_in lines)
exceeds_limit lines _ = false
