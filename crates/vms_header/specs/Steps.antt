-- What a reader of a header answers to a line.
use Rattle.std.specs.Prelude.{◌≡◌, ℕ, Result, Ok, Err}
use Rattle.vms_header.specs.declared.causes.HeaderCause.{HeaderCause}
use Rattle.vms_header.specs.declared.causes.HeaderError.{HeaderError}
use Rattle.vms_header.specs.declared.causes.HeaderError.TheVariants as error
use Rattle.vms_header.specs.declared.causes.HeaderError.TheVariants.{Bad}
use Rattle.vms_header.specs.declared.causes.ReadError.{ReadError}
use Rattle.vms_header.specs.declared.causes.ReadError.TheVariants.{Refused, Memory}
use Rattle.vms_header.specs.declared.reader.HeaderStep.{HeaderStep}
use Rattle.vms_header.specs.declared.reader.HeaderStep.TheVariants as header_step
use Rattle.vms_header.specs.Drafts.{Draft, header_of}
use Rattle.vms_header.specs.Stages.{HeadStep}
use Rattle.vms_header.specs.Stages.HeadStep.{Goes, Ends}
use Rattle.vms_header.specs.Laws.{IsWritable}

-- what a line makes: a reader that goes on from the stage, or the header of the draft, or why the line is at fault.
-- Nothing is said where memory runs out.
abbrev pub StepsTo : Result HeadStep HeaderCause → Result HeaderStep ReadError → Type 0
StepsTo step (Ok (header_step.Goes reader)) = step ≡ Ok (Goes reader)
StepsTo step (Ok (header_step.Ends header)) = (draft : Draft) × (step ≡ Ok (Ends draft)) × (header ≡ header_of draft)
StepsTo step (Err (Refused cause)) = step ≡ Err cause
StepsTo step (Err Memory) = Unit {0}

-- a header that a step gives can be written
abbrev pub IsStepWritable : HeaderStep → Type 0
IsStepWritable (header_step.Ends header) = IsWritable header
IsStepWritable (header_step.Goes reader) = Unit {0}

-- the error of a line by its number
abbrev pub at_line : ℕ → ReadError → HeaderError
at_line line (Refused cause) = Bad line cause
at_line line Memory = error.Memory
