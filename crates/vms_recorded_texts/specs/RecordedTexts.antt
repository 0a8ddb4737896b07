-- What a recording writes of a trace: its header and its lines that count, each in its one spelling, and the written
-- history of its phases.
use Rattle.std.specs.Prelude.{◌≡◌, ◌⊎◌, ◌<◌, ◌≤◌, ◌^◌, ℕ, suc, List, ◌++◌, All, drop, length, Option, Ok}
use Rattle.std.specs.Io.KnownBytes.{IsAtEnd}
use Rattle.vms_core.specs.Pages.{History}
use Rattle.vms_world.specs.Common.{lines_of, contents_of, Header}
use Rattle.vms_header.specs.Common.{read_header}
use Rattle.vms_stream.specs.Common.{most_bytes}
use Rattle.vms_stream.specs.declared.statuses.Status.{Status}
use Rattle.vms_stream.specs.declared.statuses.Status.TheVariants.{Done, Memory, ReadFault, TooLong, WriteFault}
use Rattle.vms_command.specs.Common.{most_lines}
use Rattle.vms_written_lines.specs.Spelling.{history_line}
use Rattle.vms_history_checks.specs.Accepts.{events_in}
use Rattle.vms_trace_parts.specs.Common.{copied_text}
use Rattle.vms_recorded.specs.Histories.{IsRecordedHistory, history_lines}
use Rattle.vms_certifying.specs.Certificates.{IsCertified, SaysCertify}
use Rattle.vms_certifying.specs.Printing.{certified_line}
use Rattle.vms_certify.specs.KernelRules.{kernel_rules}

-- the copy of a trace with these lines, and these histories of its phases after it
abbrev pub recorded_text : List (List ℕ) → List History → List ℕ
recorded_text lines hs = copied_text lines ++ history_line ++ history_lines hs

-- each of these lists has fewer than 2^32 events
abbrev pub AreShort : List History → Type 0
AreShort hs = All (λ h. length h < 2 ^ 32) hs

-- these lists are the recorded history of a trace with these lines
pub record IsRecordingOf (lines : List (List ℕ)) (hs : List History) : Type 0 where
  pub header : Header
  pub count : ℕ
  pub header_is : read_header lines ≡ Ok (header, count)
  pub recorded : IsRecordedHistory header (contents_of header (suc count) (drop count lines)).segments hs

-- the recorded text is certified, with all phases and events, and no line of its trace is refused
abbrev pub RecordedTextsAreCertified : Type 0
RecordedTextsAreCertified = (lines : List (List ℕ)) (hs : List History) → IsRecordingOf lines hs → AreShort hs
    → IsCertified kernel_rules (lines_of (recorded_text lines hs)) (length hs) (events_in hs) 0

-- no list is longer where the text has no more lines, or no more bytes, than a command takes
abbrev pub TextsWithinLimitsAreShort : Type 0
TextsWithinLimitsAreShort = (lines : List (List ℕ)) (hs : List History)
    → (length (lines_of (recorded_text lines hs)) ≤ most_lines) ⊎ (length (recorded_text lines hs) ≤ most_bytes)
    → AreShort hs

-- what `certify` may answer to the text: the line that says so, with the status of no fault, and else it wasn't judged
-- to its end, as a device failed, memory ran out, or a limit was exceeded
abbrev pub IsAnswer : List History → Status → List ℕ → Type 0
IsAnswer hs Done output = output ≡ certified_line (length hs) (events_in hs)
IsAnswer hs ReadFault output = Unit {0}
IsAnswer hs WriteFault output = Unit {0}
IsAnswer hs Memory output = Unit {0}
IsAnswer hs TooLong output = Unit {0}
IsAnswer hs _ output = ⊥

-- it answers nothing else to a text of at most so many bytes: it finds no line at fault
abbrev pub RecordedTextsHaveNoFault : Type 0
RecordedTextsHaveNoFault = (lines : List (List ℕ)) (hs : List History) (status : Status) (output : List ℕ)
    (left : Option (List ℕ)) → IsRecordingOf lines hs → length (recorded_text lines hs) ≤ most_bytes
    → SaysCertify kernel_rules status (recorded_text lines hs) output (IsAtEnd left) → IsAnswer hs status output
