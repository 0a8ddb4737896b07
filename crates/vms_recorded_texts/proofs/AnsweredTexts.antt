-- What `certify` may answer to a recorded text.
use Rattle.std.proofs.Common.{◌≡◌, ℕ, ◌≤◌, List, [], length, sym, ap, ap₂, subst, ◌∙◌, append-nil, arith, inl, inr}
use Rattle.std.specs.Prelude.{Ok, Err}
use Rattle.vms_core.specs.Pages.{History}
use Rattle.vms_world.specs.Common.{Header, lines_of}
use Rattle.vms_header.specs.Common.{Fault, read_header}
use Rattle.vms_phase_checks.specs.declared.faults.EventCause.{EventCause}
use Rattle.vms_stream.specs.Common.{most_bytes}
use Rattle.vms_stream.specs.declared.statuses.Status.{Status}
use Rattle.vms_stream.specs.declared.statuses.Status.TheVariants.{Done, Words, Refused, ReadFault, WriteFault, Memory}
use Rattle.vms_stream.specs.declared.statuses.Status.TheVariants.{NotCertified, TooLong}
use Rattle.vms_stream.specs.declared.statuses.Status.TheVariants as statuses
use Rattle.vms_history_checks.specs.Accepts.{events_in}
use Rattle.vms_certifying.specs.Certificates.{IsAtFault, IsCertified, SaysCertify}
use Rattle.vms_certifying.specs.Laws.{CutOffAreNone, FaultsAreFinal, LacksAreNone}
use Rattle.vms_certifying.specs.Printing.{certified_line}
use Rattle.vms_certify.specs.KernelRules.{kernel_rules}
use Rattle.vms_recorded_texts.specs.RecordedTexts.{IsAnswer}
use Rattle.vms_recorded_texts.proofs.OneCertificate.{one-certificate}
use Rattle.vms_recorded_texts.proofs.WholeTexts.{EndsLine, taken-are}

-- a header that is read isn't refused
read-or_refused : (lines : List (List ℕ)) (fault : Fault) (header : Header) (count : ℕ)
    → read_header lines ≡ Err fault → read_header lines ≡ Ok (header, count) → ⊥
read-or_refused lines fault header count refused read = cc

module _ (faults : FaultsAreFinal kernel_rules) (cuts : CutOffAreNone kernel_rules) (lacks : LacksAreNone kernel_rules)
  where
    -- a certified text has no line at fault
    none-at_fault : (lines : List (List ℕ)) (phases events refusals n : ℕ) (cause : EventCause) (at_end : Type 0)
        → IsCertified kernel_rules lines phases events refusals → IsAtFault kernel_rules lines at_end n cause → ⊥
    none-at_fault lines phases events refusals n cause at_end is (inl first) =
        faults lines [] n cause phases events refusals first
        (subst (λ (ls : List (List ℕ)). IsCertified kernel_rules ls phases events refusals) (sym (append-nil lines)) is)
    none-at_fault lines phases events refusals n cause at_end is (inr (ended, same, inl cut)) =
        cuts lines n phases events refusals cut is
    none-at_fault lines phases events refusals n cause at_end is (inr (ended, same, inr lack)) =
        lacks lines n phases events refusals lack is

    pub answer-is : (text : List ℕ) (hs : List History) (status : Status) (output : List ℕ) (at_end : Type 0)
        → EndsLine text → length text ≤ most_bytes
        → IsCertified kernel_rules (lines_of text) (length hs) (events_in hs) 0
        → SaysCertify kernel_rules status text output at_end → IsAnswer hs status output
    answer-is text hs Done output at_end ends within is says =
        let numbers = one-certificate (lines_of text) says.phases says.events says.refusals (length hs) (events_in hs) 0
        says.certified is in
        says.written_is ∙ ap₂ certified_line numbers.same_phases numbers.same_events
    answer-is text hs Words output at_end ends within is says = says
    answer-is text hs statuses.Header output at_end ends within is says =
        let lines = taken-are text says.lines at_end ends within says.judged in
        read-or_refused (lines_of text) says.fault is.header is.has.header_is.count
        (sym (ap read_header lines) ∙ says.refused) is.has.header_is.header_is
    answer-is text hs Refused output at_end ends within is says =
        let numbers = one-certificate (lines_of text) says.phases says.events says.refusals (length hs) (events_in hs) 0
        says.certified is in
        let some = says.refused in
        let none = numbers.same_refusals in
        absurd (omega (arith, some, none))
    answer-is text hs ReadFault output at_end ends within is says = tt
    answer-is text hs WriteFault output at_end ends within is says = tt
    answer-is text hs Memory output at_end ends within is says = tt
    answer-is text hs TooLong output at_end ends within is says = tt
    answer-is text hs NotCertified output at_end ends within is says =
        let lines = taken-are text says.lines at_end ends within says.judged in
        none-at_fault (lines_of text) (length hs) (events_in hs) 0 says.line says.cause at_end is
        (subst (λ (ls : List (List ℕ)). IsAtFault kernel_rules ls at_end says.line says.cause) lines says.at_fault)
