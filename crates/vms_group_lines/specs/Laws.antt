-- Laws of traces of groups, each for every text.
use Rattle.std.specs.Prelude.{◌≡◌, ℕ, ◌+◌, ◌≤◌, List, ◌∷◌, ◌++◌, length, Result, Ok, Err}
use Rattle.vms_history.specs.Common.{most_volume}
use Rattle.vms_group_lines.specs.declared.headers.GroupHeader.{GroupHeader}
use Rattle.vms_group_lines.specs.declared.lines.GroupLine.{GroupLine}
use Rattle.vms_group_lines.specs.Headers.{IsGroupHeader}
use Rattle.vms_group_lines.specs.HeadLines.{GroupFault, read_group_header}
use Rattle.vms_group_lines.specs.Judging.{group_volume, judged_group}
use Rattle.vms_group_lines.specs.Lines.{IsGroupLineOf}

-- every header that is read is one
abbrev pub GroupHeadersAreValid : Type 0
GroupHeadersAreValid =
    (lines : List (List ℕ)) (header : GroupHeader) (count : ℕ) → read_group_header lines ≡ Ok (header, count)
    → IsGroupHeader header

-- what reading a header answers is settled by the lines that it rests on: those of the header, or those up to the fault
abbrev pub IsGroupSettled : List (List ℕ) → Result (GroupHeader × ℕ) GroupFault → Type 0
IsGroupSettled lines (Ok found) =
    (1 ≤ found.1) × (found.1 ≤ length lines)
    × ((more : List (List ℕ)) → read_group_header (lines ++ more) ≡ Ok found)
IsGroupSettled lines (Err fault) =
    (1 ≤ fault.line) × (fault.line ≤ length lines + 1)
    × (fault.line ≤ length lines → (more : List (List ℕ)) → read_group_header (lines ++ more) ≡ Err fault)

abbrev pub GroupHeadersAreSettled : Type 0
GroupHeadersAreSettled = (lines : List (List ℕ)) → IsGroupSettled lines (read_group_header lines)

-- no CPU has changed a group by more than the most volume in these lines
abbrev pub StayWithinVolumes : List GroupLine → Type 0
StayWithinVolumes lines = (c g : ℕ) → group_volume c g lines ≤ most_volume

-- a line that counts is one of the header, and with it the lines stay within their volumes
abbrev pub JudgedGroupLinesFit : Type 0
JudgedGroupLinesFit =
    (header : GroupHeader) (lines : List GroupLine) (text : List ℕ) (line : GroupLine) → IsGroupHeader header
    → judged_group header lines text ≡ Ok line
    → IsGroupLineOf header line × (StayWithinVolumes lines → StayWithinVolumes (line ∷ lines))
