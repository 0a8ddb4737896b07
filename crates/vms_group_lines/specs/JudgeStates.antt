-- What a judge of lines keeps of the lines above that count.
use Rattle.std.specs.Prelude.{◌≡◌, ℕ, ◌*◌, ◌<◌, ◌≤◌, List, length, slice_index_or, Result, Ok, Err}
use Rattle.vms_history.specs.Common.{cell, most_volume}
use Rattle.vms_group_core.specs.Common.{group_count}
use Rattle.vms_group_lines.specs.declared.causes.GroupCause.{GroupCause}
use Rattle.vms_group_lines.specs.declared.headers.GroupHeader.{GroupHeader}
use Rattle.vms_group_lines.specs.declared.judges.GroupJudge.{GroupJudge}
use Rattle.vms_group_lines.specs.declared.lines.GroupLine.{GroupLine}
use Rattle.vms_group_lines.specs.Judging.{allowed_group_line, group_volume, with_group_line}

-- a judge after these lines that count, the newest first, of a body with this header: it has the volume of each CPU on
-- each group, none past the most
pub record GroupJudgeStands (header : GroupHeader) (lines : List GroupLine) (judge : GroupJudge) : Type 0 where
  pub each : length judge.volumes ≡ header.tree.cpus * group_count header.tree
  pub is : (c g : ℕ) → c < header.tree.cpus → g < group_count header.tree
      → slice_index_or judge.volumes (cell (group_count header.tree) c g) 0 ≡ group_volume c g lines
  pub most : (c g : ℕ) → c < header.tree.cpus → g < group_count header.tree → group_volume c g lines ≤ most_volume

-- a judge after some lines of a body with this header
pub record SomeGroupJudge (header : GroupHeader) (judge : GroupJudge) : Type 0 where
  pub lines : List GroupLine
  pub stands : GroupJudgeStands header lines judge

-- the answer to a line that was read, by what the judge says of it
abbrev pub answered : GroupLine → Result (Unit {0}) GroupCause → Result GroupLine GroupCause
answered line (Ok _) = Ok line
answered line (Err cause) = Err cause

-- a judge decides a line that was read, whatever lines it stands after. If the line counts the judge then stands after
-- it too
abbrev pub Decides : GroupHeader → GroupLine → GroupJudge → GroupJudge → Result (Unit {0}) GroupCause → Type 0
Decides header line judge judge' result =
    (lines : List GroupLine) → GroupJudgeStands header lines judge
    → (answered line result ≡ allowed_group_line lines line)
    × GroupJudgeStands header (with_group_line (answered line result) lines) judge'
