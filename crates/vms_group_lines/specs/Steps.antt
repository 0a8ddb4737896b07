-- What a reader of a header answers to a line.
use Rattle.std.specs.Prelude.{◌≡◌, Result, Ok, Err}
use Rattle.vms_group_lines.specs.declared.causes.GroupCause.{GroupCause}
use Rattle.vms_group_lines.specs.declared.causes.GroupReadError.{GroupReadError}
use Rattle.vms_group_lines.specs.declared.causes.GroupReadError.TheVariants.{Refused, Memory}
use Rattle.vms_group_lines.specs.declared.reader.GroupHeadStep.{GroupHeadStep}
use Rattle.vms_group_lines.specs.declared.reader.GroupHeadStep.TheVariants as reader_step
use Rattle.vms_group_lines.specs.declared.stages.HeadStep.{HeadStep}
use Rattle.vms_group_lines.specs.declared.stages.HeadStep.TheVariants.{Goes, Ends}
use Rattle.vms_group_lines.specs.Headers.{IsGroupHeader}

-- an answer for which memory may run out, of which nothing is said: what is found, or the cause
abbrev pub IsRead : {A : Type 0} → Result A GroupCause → Result A GroupReadError → Type 0
IsRead answer (Ok found) = answer ≡ Ok found
IsRead answer (Err (Refused cause)) = answer ≡ Err cause
IsRead answer (Err Memory) = Unit {0}

-- what a line makes: a reader that goes on from the stage, or the header, or why the line is at fault. Nothing is said
-- where memory runs out.
abbrev pub StepsTo : Result HeadStep GroupCause → Result GroupHeadStep GroupReadError → Type 0
StepsTo step (Ok (reader_step.Goes reader)) = step ≡ Ok (Goes reader)
StepsTo step (Ok (reader_step.Ends header)) = step ≡ Ok (Ends header)
StepsTo step (Err (Refused cause)) = step ≡ Err cause
StepsTo step (Err Memory) = Unit {0}

-- the header that a step gives is one
abbrev pub EndsValid : GroupHeadStep → Type 0
EndsValid (reader_step.Ends header) = IsGroupHeader header
EndsValid (reader_step.Goes reader) = Unit {0}
