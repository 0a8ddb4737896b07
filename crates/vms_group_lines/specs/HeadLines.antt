-- The header of a trace of groups, and the first line at fault.
use Rattle.std.specs.Prelude.{ℕ, suc, nat_eq, nat_lt, nat_le, ◌&&◌, Bool, if◌then◌else◌, List, [], ◌∷◌, ◌++◌, length}
use Rattle.std.specs.Prelude.{codes, bytes_eq, Option, Some, None, ok_or, Result, Ok, Err}
use Rattle.std.specs.Cmp.Lexicographic.{pointwise}
use Rattle.std.specs.List.{list_any}
use Rattle.vms_base.specs.Names.{is_name}
use Rattle.vms_group_core.specs.Common.{group_count}
use Rattle.vms_text.specs.Common.{unsigned_of, words_of, and_then, most_line, is_ignored, is_clean}
use Rattle.vms_group_lines.specs.declared.causes.GroupCause.{GroupCause}
use Rattle.vms_group_lines.specs.declared.causes.GroupCause.TheVariants.{LineTooLong, BadMagic, Malformed, BadNumber}
use Rattle.vms_group_lines.specs.declared.causes.GroupCause.TheVariants.{BadName, BadCpus, DoubledGroup, TooManyGroups}
use Rattle.vms_group_lines.specs.declared.causes.GroupCause.TheVariants.{MissingGo}
use Rattle.vms_group_lines.specs.declared.headers.GroupHeader.{GroupHeader}
use Rattle.vms_group_lines.specs.declared.stages.GroupStage.{GroupStage}
use Rattle.vms_group_lines.specs.declared.stages.GroupStage.TheVariants.{Opening, Versioned, Declaring}
use Rattle.vms_group_lines.specs.declared.stages.HeadStep.{HeadStep}
use Rattle.vms_group_lines.specs.declared.stages.HeadStep.TheVariants.{Goes, Ends}
use Rattle.vms_group_lines.specs.Headers.{group_field}
use Rattle.vms_group_lines.specs.Stages.{first_draft}

-- a header's line that is refused, counted from 1, and why
pub record GroupFault : Type 0 where
  pub line : ℕ
  pub cause : GroupCause

-- whether the words are `vmgroups` and `1`
abbrev pub are_magic : List (List ℕ) → Bool
are_magic words = pointwise bytes_eq words (codes "vmgroups" ∷ codes "1" ∷ [])

-- `vmgroups 1`
abbrev pub magic_line : Bool → List (List ℕ) → Result HeadStep GroupCause
magic_line clean words =
    if are_magic words then (if clean then Ok (Goes Versioned) else Err Malformed) else Err BadMagic

-- so many CPUs
abbrev pub with_cpus : ℕ → Result HeadStep GroupCause
with_cpus n = if nat_le 1 n && nat_le n 64 then Ok (Goes (Declaring (first_draft n))) else Err BadCpus

-- `cpus N`
abbrev pub cpus_line : List (List ℕ) → Result HeadStep GroupCause
cpus_line (word ∷ n ∷ []) =
    if bytes_eq word (codes "cpus") then and_then (ok_or (unsigned_of n) BadNumber) with_cpus else Err Malformed
cpus_line _ = Err Malformed

-- one group more
abbrev pub with_group : GroupHeader → List ℕ → Option ℕ → Result GroupHeader GroupCause
with_group header name parent =
    if list_any (bytes_eq name) header.names then Err DoubledGroup
    else if nat_le 64 (group_count header.tree) then Err TooManyGroups
    else Ok (record {
      tree = record { parents = header.tree.parents ++ parent ∷ []; cpus = header.tree.cpus };
      names = header.names ++ name ∷ [];
    })

-- `group NAME`, or `group NAME PARENT` with a parent declared above
abbrev pub group_row : GroupHeader → List (List ℕ) → Result GroupHeader GroupCause
group_row header (name ∷ []) = if is_name name then with_group header name None else Err BadName
group_row header (name ∷ parent ∷ []) =
    if is_name name
    then and_then (group_field header parent) (λ parent. with_group header name (Some parent))
    else Err BadName
group_row header _ = Err Malformed

-- `go`, after a group
abbrev pub go_row : GroupHeader → List (List ℕ) → Result HeadStep GroupCause
go_row header [] = if nat_eq (group_count header.tree) 0 then Err Malformed else Ok (Ends header)
go_row header _ = Err Malformed

-- a line after `cpus`
abbrev pub declaring_line : GroupHeader → List (List ℕ) → Result HeadStep GroupCause
declaring_line header [] = Err Malformed
declaring_line header (word ∷ fields) =
    if bytes_eq word (codes "group")
    then and_then (group_row header fields) (λ header. Ok (Goes (Declaring header)))
    else if bytes_eq word (codes "go") then go_row header fields
    else Err Malformed

-- the words of a line that isn't ignored, and whether each of its bytes is one of a trace
abbrev pub stage_line : GroupStage → Bool → List (List ℕ) → Result HeadStep GroupCause
stage_line Opening clean words = magic_line clean words
stage_line Versioned clean words = if clean then cpus_line words else Err Malformed
stage_line (Declaring header) clean words = if clean then declaring_line header words else Err Malformed

-- a line of a header
abbrev pub group_head_line : GroupStage → List ℕ → Result HeadStep GroupCause
group_head_line stage line =
    if nat_lt most_line (length line) then Err LineTooLong
    else if is_ignored line then Ok (Goes stage)
    else stage_line stage (is_clean line) (words_of line)

-- why a text that ends here has no header
abbrev pub group_missing : GroupStage → GroupCause
group_missing Opening = BadMagic
group_missing _ = MissingGo

-- the header once line n was read; `follows` is what the lines after it say
abbrev pub on_group_step : ℕ → Result HeadStep GroupCause → (GroupStage → Result (GroupHeader × ℕ) GroupFault)
    → Result (GroupHeader × ℕ) GroupFault
on_group_step n (Ok (Goes stage)) follows = follows stage
on_group_step n (Ok (Ends header)) follows = Ok (header, n)
on_group_step n (Err cause) follows = Err (record { line = n; cause = cause })

-- the header that these lines say, the first of them line n, and the number of its last line
abbrev pub group_header_from : ℕ → GroupStage → List (List ℕ) → Result (GroupHeader × ℕ) GroupFault
group_header_from n stage [] = Err (record { line = n; cause = group_missing stage })
group_header_from n stage (line ∷ lines) =
    on_group_step n (group_head_line stage line) (λ next. group_header_from (suc n) next lines)

-- the header that the first lines of a trace say, and how many they are, or the first line at fault. Where the lines
-- end too early it is the line after the last.
abbrev pub read_group_header : List (List ℕ) → Result (GroupHeader × ℕ) GroupFault
read_group_header lines = group_header_from 1 Opening lines
