-- When the history after a trace is certified, and which of its lines is the first at fault.
use Rattle.std.specs.Prelude.{◌≡◌, ◌⊎◌, ◌≤◌, ◌+◌, ℕ, suc, false, true, List, [], ◌∷◌, ◌++◌, All, drop, length, Ok, Err}
use Rattle.vms_base.specs.declared.headers.Header.{Header}
use Rattle.vms_header.specs.Common.{Fault, read_header}
use Rattle.vms_stream.specs.Common.{AreLinesTaken, most_bytes}
use Rattle.vms_stream.specs.declared.statuses.Status.{Status}
use Rattle.vms_stream.specs.declared.statuses.Status.TheVariants.{Done, Words, Refused, ReadFault, WriteFault, Memory}
use Rattle.vms_stream.specs.declared.statuses.Status.TheVariants.{NotCertified, TooLong}
use Rattle.vms_stream.specs.declared.statuses.Status.TheVariants as statuses
use Rattle.vms_text.specs.Common.{lines_of}
use Rattle.vms_command.specs.Common.{header_line}
use Rattle.vms_phase_checks.specs.declared.faults.EventCause.{EventCause}
use Rattle.vms_phase_checks.specs.declared.faults.EventCause.TheVariants.{Incomplete}
use Rattle.vms_certifying.specs.Certifying.{segments_in, trace_above}
use Rattle.vms_certifying.specs.HistoryLines.{is_history_line}
use Rattle.vms_certifying.specs.HistoryRules.{HistoryRules}
use Rattle.vms_certifying.specs.Judging.{IsNeverWhole}
use Rattle.vms_certifying.specs.Printing.{certified_line, fault_line}

-- the lines have a header, after which the body begins at line `first`
pub record HasHeader (lines : List (List ℕ)) (header : Header) (first : ℕ) (body : List (List ℕ)) : Type 0 where
  pub count : ℕ
  pub header_is : read_header lines ≡ Ok (header, count)
  pub first_is : first ≡ suc count
  pub body_is : drop count lines ≡ body

-- none of these lines ends a trace
abbrev pub HaveNoHistory : List (List ℕ) → Type 0
HaveNoHistory lines = All (λ line. is_history_line line ≡ false) lines

-- the body is a trace, the first line that ends one, and a history
pub record HasHistory (lines : List (List ℕ)) (header : Header) (first : ℕ) (trace written : List (List ℕ))
    : Type 0 where
  pub ending : List ℕ
  pub header_is : HasHeader lines header first (trace ++ ending ∷ written)
  pub trace_is : HaveNoHistory trace
  pub ends : is_history_line ending ≡ true

-- the history after the trace of these lines is certified: it is a whole one of the trace's segments, of so many phases
-- and events. So many lines of the trace don't count
pub record IsCertified (rules : HistoryRules) (lines : List (List ℕ)) (phases events refusals : ℕ) : Type 0 where
  pub header : Header
  pub first : ℕ
  pub trace : List (List ℕ)
  pub written : List (List ℕ)
  pub has : HasHistory lines header first trace written
  pub whole : rules.IsWhole header (segments_in header first trace) written phases events
  pub refused : refusals ≡ (trace_above header trace).refused

-- lines of a history so far, none of which is at fault
abbrev pub HasBegun : HistoryRules → Header → ℕ → List (List ℕ) → List (List ℕ) → Type 0
HasBegun rules header first trace [] = Unit {0}
HasBegun rules header first trace (line ∷ lines) = rules.Begins header (segments_in header first trace) (line ∷ lines)

-- line n is the first at fault of a history
pub record IsFirstFault (rules : HistoryRules) (lines : List (List ℕ)) (n : ℕ) (cause : EventCause) : Type 0 where
  pub header : Header
  pub first : ℕ
  pub trace : List (List ℕ)
  pub before : List (List ℕ)
  pub line : List ℕ
  pub after : List (List ℕ)
  pub has : HasHistory lines header first trace (before ++ line ∷ after)
  pub begun : HasBegun rules header first trace before
  pub fault : rules.IsFault header (segments_in header first trace) before line cause
  pub number : n ≡ first + length trace + 1 + length before

-- no line of a history is at fault, and it isn't whole
pub record IsCutOff (rules : HistoryRules) (lines : List (List ℕ)) (n : ℕ) : Type 0 where
  pub header : Header
  pub first : ℕ
  pub trace : List (List ℕ)
  pub written : List (List ℕ)
  pub has : HasHistory lines header first trace written
  pub begun : HasBegun rules header first trace written
  pub not_whole : IsNeverWhole rules header (segments_in header first trace) written
  pub number : n ≡ first + length trace + 1 + length written

-- there is a trace and no history
pub record LacksHistory (lines : List (List ℕ)) (n : ℕ) : Type 0 where
  pub header : Header
  pub first : ℕ
  pub trace : List (List ℕ)
  pub has : HasHeader lines header first trace
  pub trace_is : HaveNoHistory trace
  pub number : n ≡ first + length trace

-- a history isn't certified: for a line at fault, or because the input ends there
abbrev pub IsAtFault : HistoryRules → List (List ℕ) → Type 0 → ℕ → EventCause → Type 0
IsAtFault rules lines at_end n cause = IsFirstFault rules lines n cause
    ⊎ (at_end × (cause ≡ Incomplete) × (IsCutOff rules lines n ⊎ LacksHistory lines n))

-- the whole input was read, and its history is certified
pub record Certifies (rules : HistoryRules) (taken written : List ℕ) (at_end : Type 0) (counted : ℕ → Type 0)
    : Type 0 where
  pub ended : at_end
  pub within : length taken ≤ most_bytes
  pub phases : ℕ
  pub events : ℕ
  pub refusals : ℕ
  pub certified : IsCertified rules (lines_of taken) phases events refusals
  pub refused : counted refusals
  pub written_is : written ≡ certified_line phases events

-- the header of the lines that were taken is refused
pub record RefusesHeader (taken written : List ℕ) (at_end : Type 0) : Type 0 where
  pub lines : List (List ℕ)
  pub judged : AreLinesTaken taken lines at_end
  pub fault : Fault
  pub refused : read_header lines ≡ Err fault
  -- it is one of the lines, or they are all of the input
  pub settled : (fault.line ≤ length lines) ⊎ at_end
  pub written_is : written ≡ header_line fault

-- the history among the lines that were taken isn't certified
pub record RefusesHistory (rules : HistoryRules) (taken written : List ℕ) (at_end : Type 0) : Type 0 where
  pub lines : List (List ℕ)
  pub judged : AreLinesTaken taken lines at_end
  pub line : ℕ
  pub cause : EventCause
  pub at_fault : IsAtFault rules lines at_end line cause
  pub written_is : written ≡ fault_line line cause

-- what a status says of what was taken and written
abbrev pub SaysCertify : HistoryRules → Status → List ℕ → List ℕ → Type 0 → Type 0
SaysCertify rules Done taken written at_end = Certifies rules taken written at_end (λ refused. refused ≡ 0)
SaysCertify rules Words taken written at_end = ⊥
SaysCertify rules statuses.Header taken written at_end = RefusesHeader taken written at_end
SaysCertify rules Refused taken written at_end = Certifies rules taken written at_end (λ refused. 1 ≤ refused)
SaysCertify rules ReadFault taken written at_end = written ≡ []
SaysCertify rules WriteFault taken written at_end = Unit {0}
SaysCertify rules Memory taken written at_end = Unit {0}
SaysCertify rules TooLong taken written at_end = written ≡ []
SaysCertify rules NotCertified taken written at_end = RefusesHistory rules taken written at_end
