-- That what `record` writes is certified.
use Rattle.std.specs.Prelude.{◌≡◌, ◌≤◌, ℕ, List, length, Option}
use Rattle.std.specs.Io.KnownBytes.{IsAtEnd}
use Rattle.vms_core.specs.Pages.{History}
use Rattle.vms_certify.specs.KernelRules.{kernel_rules}
use Rattle.vms_certifying.specs.Certificates.{SaysCertify}
use Rattle.vms_record.specs.Answers.{SaysRecord}
use Rattle.vms_recorded_texts.specs.RecordedTexts.{IsAnswer, IsRecordingOf, recorded_text}
use Rattle.vms_stream.specs.Common.{most_bytes, reading_of}
use Rattle.vms_stream.specs.declared.statuses.Status.{Status}
use Rattle.vms_stream.specs.declared.statuses.Status.TheVariants.{Done, Refused}
use Rattle.vms_world.specs.Common.{lines_of}

-- with these statuses a whole trace was recorded
abbrev pub IsRecorded : Status → Type 0
IsRecorded Done = Unit {0}
IsRecorded Refused = Unit {0}
IsRecorded _ = ⊥

-- then the recorded text of the input was written
abbrev pub RecordsItsText : {S : Type 0} → (S → Option (List ℕ)) → (S → ℕ) → Type 0
RecordsItsText {S} left calls = (status : Status) (taken written : List ℕ) (src src' : S) → IsRecorded status
    → SaysRecord status taken written (reading_of left calls src src')
    → (hs : List History) × IsRecordingOf (lines_of taken) hs × (written ≡ recorded_text (lines_of taken) hs)

-- and `certify` may answer to it that it is certified, and finds no line at fault
abbrev pub RecordsAreCertified : {S : Type 0} → (S → Option (List ℕ)) → (S → ℕ) → Type 0
RecordsAreCertified {S} left calls =
    (status verdict : Status) (taken written output : List ℕ) (src src' : S) (after : Option (List ℕ))
    → IsRecorded status → SaysRecord status taken written (reading_of left calls src src')
    → length written ≤ most_bytes
    → SaysCertify kernel_rules verdict written output (IsAtEnd after)
    → (hs : List History) × IsRecordingOf (lines_of taken) hs × IsAnswer hs verdict output
