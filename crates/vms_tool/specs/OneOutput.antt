-- That a text has one output.
use Rattle.std.specs.Prelude.{◌≡◌, ℕ, List, Option, Some}
use Rattle.std.specs.Io.KnownBytes.{Consumes}
use Rattle.vms_certify.specs.KernelRules.{kernel_rules}
use Rattle.vms_certifying.specs.Answers.{SaysCertified}
use Rattle.vms_check.specs.Common.{check, shown_by_check}
use Rattle.vms_replay.specs.Common.{SaysReplay}
use Rattle.vms_stream.specs.Common.{Reading, reading_of, Says}
use Rattle.vms_stream.specs.declared.statuses.Status.{Status}
use Rattle.vms_stream.specs.declared.statuses.Status.TheVariants.{Done, Header, NotCertified, Refused, TooLong}

-- with these statuses a command came to the end of a body
abbrev pub IsWhole : Status → Type 0
IsWhole Done = Unit {0}
IsWhole Refused = Unit {0}
IsWhole _ = ⊥

-- with these statuses a command came to the end of its input, to a line that stops it, or past the limit on bytes
abbrev pub IsDecided : Status → Type 0
IsDecided Done = Unit {0}
IsDecided Header = Unit {0}
IsDecided Refused = Unit {0}
IsDecided NotCertified = Unit {0}
IsDecided TooLong = Unit {0}
IsDecided _ = ⊥

-- a command that says this took the same bytes twice, and came to the end both times: it wrote the same, with the same
-- status
abbrev pub HasOneOutput : {S T : Type 0} → (S → Option (List ℕ)) → (S → ℕ) → (T → Option (List ℕ)) → (T → ℕ)
    → (Status → List ℕ → List ℕ → Reading → Type 0) → Type 0
HasOneOutput {S} {T} left calls left' calls' says =
    (status status' : Status) (taken written written' : List ℕ) (src after : S) (src' after' : T) →
    IsWhole status → IsWhole status' → says status taken written (reading_of left calls src after) →
    says status' taken written' (reading_of left' calls' src' after') → (status ≡ status') × (written ≡ written')

-- a command that says this had the same text before it twice, and was decided both times, however far it read: it wrote
-- the same, with the same status
abbrev pub HasOneOutputOfText : {S T : Type 0} → (S → Option (List ℕ)) → (S → ℕ) → (T → Option (List ℕ)) → (T → ℕ)
    → (Status → List ℕ → List ℕ → Reading → Type 0) → Type 0
HasOneOutputOfText {S} {T} left calls left' calls' says =
    (status status' : Status) (text taken taken' written written' : List ℕ) (src after : S) (src' after' : T) →
    IsDecided status → IsDecided status' → left src ≡ Some text → left' src' ≡ Some text →
    Consumes (left src) (left after) taken → Consumes (left' src') (left' after') taken' →
    says status taken written (reading_of left calls src after) →
    says status' taken' written' (reading_of left' calls' src' after') → (status ≡ status') × (written ≡ written')

-- `replay` has one output of the same bytes
abbrev pub ReplayHasOneOutput : {S T : Type 0} → (S → Option (List ℕ)) → (S → ℕ) → (T → Option (List ℕ)) → (T → ℕ)
    → Type 0
ReplayHasOneOutput left calls left' calls' = HasOneOutput left calls left' calls' SaysReplay

-- and of the same text
abbrev pub ReplayHasOneOutputOfText : {S T : Type 0} → (S → Option (List ℕ)) → (S → ℕ) → (T → Option (List ℕ))
    → (T → ℕ) → Type 0
ReplayHasOneOutputOfText left calls left' calls' = HasOneOutputOfText left calls left' calls' SaysReplay

-- `check` has one output of the same bytes
abbrev pub CheckHasOneOutput : {S T : Type 0} → (S → Option (List ℕ)) → (S → ℕ) → (T → Option (List ℕ)) → (T → ℕ)
    → Type 0
CheckHasOneOutput left calls left' calls' = HasOneOutput left calls left' calls' (Says check shown_by_check)

-- and of the same text
abbrev pub CheckHasOneOutputOfText : {S T : Type 0} → (S → Option (List ℕ)) → (S → ℕ) → (T → Option (List ℕ))
    → (T → ℕ) → Type 0
CheckHasOneOutputOfText left calls left' calls' =
    HasOneOutputOfText left calls left' calls' (Says check shown_by_check)

-- `certify` has one output of the same text
abbrev pub CertifyHasOneOutputOfText : {S T : Type 0} → (S → Option (List ℕ)) → (S → ℕ) → (T → Option (List ℕ))
    → (T → ℕ) → Type 0
CertifyHasOneOutputOfText left calls left' calls' =
    HasOneOutputOfText left calls left' calls' (SaysCertified kernel_rules)
