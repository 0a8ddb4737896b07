-- Which lines count. It is a function of the text alone: of the line and of the lines above that count, the newest
-- first.
use Rattle.std.specs.Prelude.{ℕ, ◌+◌, nat_eq, nat_lt, if◌then◌else◌, unsigned_abs, List, [], ◌∷◌, Bool, false, Result}
use Rattle.std.specs.Prelude.{Ok, Err}
use Rattle.vms_history.specs.Common.{most_volume}
use Rattle.vms_group_core.specs.declared.call_values.GroupCall.{GroupCall}
use Rattle.vms_group_core.specs.declared.call_values.GroupCall.TheVariants.{Change}
use Rattle.vms_group_core.specs.Common.{group_spent}
use Rattle.vms_text.specs.Common.{and_then}
use Rattle.vms_group_lines.specs.declared.causes.GroupCause.{GroupCause}
use Rattle.vms_group_lines.specs.declared.causes.GroupCause.TheVariants.{Overflow}
use Rattle.vms_group_lines.specs.declared.headers.GroupHeader.{GroupHeader}
use Rattle.vms_group_lines.specs.declared.lines.GroupLine.{GroupLine}
use Rattle.vms_group_lines.specs.declared.lines.GroupLine.TheVariants.{Blank, Lane}
use Rattle.vms_group_lines.specs.Lines.{read_group_line}

-- what a line spends of the volume of CPU c on group g: the size of its change, if it is one of that CPU's lane
abbrev pub group_line_spent : ℕ → ℕ → GroupLine → ℕ
group_line_spent c g (Lane cpu call) = if nat_eq cpu.number c then group_spent call g else 0
group_line_spent c g _ = 0

-- what CPU c changed group g by in these lines, in absolute sum
abbrev pub group_volume : ℕ → ℕ → List GroupLine → ℕ
group_volume c g [] = 0
group_volume c g (line ∷ lines) = group_line_spent c g line + group_volume c g lines

-- whether a call of CPU c would exceed the most volume after these lines
abbrev pub exceeds_volume : List GroupLine → ℕ → GroupCall → Bool
exceeds_volume lines c (Change g amount) = nat_lt most_volume (group_volume c g lines + unsigned_abs amount)
exceeds_volume lines c _ = false

-- a line that was read, or why it doesn't count after these lines
abbrev pub allowed_group_line : List GroupLine → GroupLine → Result GroupLine GroupCause
allowed_group_line lines (Lane cpu call) =
    if exceeds_volume lines cpu.number call then Err Overflow else Ok (Lane cpu call)
allowed_group_line lines line = Ok line

-- what a line of the body says, or the first cause why it doesn't count, after the lines above that count
abbrev pub judged_group : GroupHeader → List GroupLine → List ℕ → Result GroupLine GroupCause
judged_group header lines text = and_then (read_group_line header text) (allowed_group_line lines)

-- the lines that count with one line more, if it counts; a blank line doesn't
abbrev pub with_group_line : Result GroupLine GroupCause → List GroupLine → List GroupLine
with_group_line (Ok Blank) lines = lines
with_group_line (Ok line) lines = line ∷ lines
with_group_line (Err cause) lines = lines
