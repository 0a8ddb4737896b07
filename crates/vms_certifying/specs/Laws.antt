-- Laws of certificates.
use Rattle.std.specs.Prelude.{ℕ, List, ◌∷◌, ◌++◌}
use Rattle.vms_base.specs.Common.{IsHeader}
use Rattle.vms_base.specs.declared.headers.Header.{Header}
use Rattle.vms_phase_checks.specs.declared.faults.EventCause.{EventCause}
use Rattle.vms_script.specs.Common.{AreSegments, Segment, first_start}
use Rattle.vms_certifying.specs.Certificates.{IsCertified, IsCutOff, IsFirstFault, LacksHistory}
use Rattle.vms_certifying.specs.HistoryRules.{HistoryRules}

-- a line at fault is so whatever lines follow it: they are no whole history
abbrev pub FaultsStay : HistoryRules → Type 0
FaultsStay rules = (header : Header) (segments : List Segment) (lines : List (List ℕ)) (line : List ℕ)
    (cause : EventCause) (after : List (List ℕ)) (phases events : ℕ) → IsHeader header
    → AreSegments header first_start segments → rules.IsFault header segments lines line cause
    → ¬ rules.IsWhole header segments (lines ++ line ∷ after) phases events

-- no text is certified whose first lines have a line at fault
abbrev pub FaultsAreFinal : HistoryRules → Type 0
FaultsAreFinal rules = (lines more : List (List ℕ)) (n : ℕ) (cause : EventCause) (phases events refused : ℕ)
    → IsFirstFault rules lines n cause → ¬ IsCertified rules (lines ++ more) phases events refused

-- nor one whose history is cut off, or that has none
abbrev pub CutOffAreNone : HistoryRules → Type 0
CutOffAreNone rules = (lines : List (List ℕ)) (n phases events refused : ℕ) → IsCutOff rules lines n
    → ¬ IsCertified rules lines phases events refused

abbrev pub LacksAreNone : HistoryRules → Type 0
LacksAreNone rules = (lines : List (List ℕ)) (n phases events refused : ℕ) → LacksHistory lines n
    → ¬ IsCertified rules lines phases events refused
