-- Where a line stops the command.
use Rattle.std.proofs.Common.{◌≡◌, ℕ, suc, ◌+◌, ◌≤◌, nat_lt, Bool, true, false, List, [], ◌∷◌, ◌++◌, Option, Some, None}
use Rattle.std.proofs.Common.{refl, sym, ap, subst, ◌∙◌, arith, length}
use Rattle.std.specs.Prelude.{Result, Ok, Err, not, if◌then◌else◌}
use Rattle.vms_base.specs.declared.headers.Header.{Header}
use Rattle.vms_header.specs.declared.causes.HeaderCause.{HeaderCause}
use Rattle.vms_header.specs.Common.{Fault, Stage, HeadStep, head_line, header_from, on_step, read_header}
use Rattle.vms_script.specs.Common.{judged}
use Rattle.vms_stream.specs.declared.statuses.Status.{Status}
use Rattle.vms_stream.specs.declared.statuses.Status.TheVariants.{TooLong}
use Rattle.vms_stream.specs.declared.statuses.Status.TheVariants as statuses
use Rattle.vms_stream.specs.Common.{Behavior, Gives, Lacks, On, OutcomesLead, PhasedBehavior, Short, Way, halt_at}
use Rattle.vms_stream.specs.Common.{halted, leads_on, none_after, printed, printed_at, printed_from, supply, way_after}
use Rattle.vms_stream.specs.Common.{with_outcomes}
use Rattle.vms_command.specs.Common.{LinesAbove, exceeds, exceeds_limit, header_line, most_lines, refuses}
use Rattle.vms_phase_checks.specs.declared.faults.EventCause.{EventCause}
use Rattle.vms_certifying.specs.declared.verdicts.Verdict.{Verdict}
use Rattle.vms_certifying.specs.declared.verdicts.Verdict.TheVariants.{Refused, Taken, Whole}
use Rattle.vms_certifying.specs.Certificates.{IsFirstFault}
use Rattle.vms_certifying.specs.Certifying.{CertifyState, after_head, after_line, certifying, halted_in_trace}
use Rattle.vms_certifying.specs.Certifying.{halted_line, judges_line, printed_head, printed_line, trace_above}
use Rattle.vms_certifying.specs.Certifying.CertifyState.{Heading, Trace, Written}
use Rattle.vms_certifying.specs.HistoryLines.{is_history_line}
use Rattle.vms_certifying.specs.HistoryRules.{HistoryRules}
use Rattle.vms_certifying.specs.Printing.{fault_line}
use Rattle.vms_certifying.proofs.WalkedTexts.{Stood, by_limit, drop-within, first-some, later-some, stood-head}
use Rattle.vms_certifying.proofs.WalkedTexts.{stood-trace, stood-written}

-- a limit was exceeded, the header is refused, or a line of the history is at fault
pub data StopsAs (rules : HistoryRules) (all : List (List ℕ)) (halt : Status) (out : List ℕ) : Type 0 where
  by_limits : halt ≡ TooLong → out ≡ [] → StopsAs rules all halt out
  by_header : (fault : Fault) → halt ≡ statuses.Header → read_header all ≡ Err fault → fault.line ≤ length all
      → out ≡ header_line fault → StopsAs rules all halt out
  by_history : (n : ℕ) (cause : EventCause) → halt ≡ statuses.NotCertified → IsFirstFault rules all n cause
      → out ≡ fault_line n cause → StopsAs rules all halt out

-- what is printed from a line on
printed-past : (halt : Option Status) (line later : List ℕ) → halt ≡ None → line ≡ []
    → printed_from halt line later ≡ later
printed-past None line later none nothing = ap (λ (bytes : List ℕ). bytes ++ later) nothing
printed-past (Some halt) line later none nothing = absurd cc

printed-refused : (halt : Option Status) (line later : List ℕ) → halt ≡ Some statuses.Header
    → printed_from halt line later ≡ line
printed-refused halt line later is = ap (λ (h : Option Status). printed_from h line later) is

printed-faulty : (halt : Option Status) (line later : List ℕ) → halt ≡ Some statuses.NotCertified
    → printed_from halt line later ≡ line
printed-faulty halt line later is = ap (λ (h : Option Status). printed_from h line later) is

printed-limited : (halt : Option Status) (line later : List ℕ) → halt ≡ Some TooLong
    → printed_from halt line later ≡ []
printed-limited halt line later is = ap (λ (h : Option Status). printed_from h line later) is

module _ (rules : HistoryRules) (all : List (List ℕ)) (given : List Verdict) where
  abbrev phased : PhasedBehavior CertifyState Verdict
  phased = certifying rules

  abbrev behavior : Behavior (Way CertifyState Verdict)
  behavior = with_outcomes phased given

  -- at this line, with what it gets of the verdicts
  module _ (s : CertifyState) (line : List ℕ) (lines : List (List ℕ)) (verdicts left : List Verdict)
      (verdict : Option Verdict) (got : supply (judges_line s) verdicts ≡ Gives verdict left) (halt : Status)
      (stops : halted behavior (On s verdicts) (line ∷ lines) ≡ Some halt) where
    abbrev out : List ℕ
    out = printed behavior (On s verdicts) (line ∷ lines)

    halts : halt_at phased s line (supply (judges_line s) verdicts) ≡ halted_line s line verdict
    halts = ap (halt_at phased s line) got

    stops-limit : halted_line s line verdict ≡ Some TooLong → StopsAs rules all halt out
    stops-limit is =
        by_limits (sym (first-some _ _ halt TooLong (halts ∙ is) stops)) (printed-limited _ _ _ (halts ∙ is))

    stops-header : (fault : Fault) → halted_line s line verdict ≡ Some statuses.Header → read_header all ≡ Err fault
        → fault.line ≤ length all → printed_line s line verdict ≡ header_line fault → StopsAs rules all halt out
    stops-header fault is refused within prints =
        by_header fault (sym (first-some _ _ halt statuses.Header (halts ∙ is) stops)) refused within
        (printed-refused _ _ _ (halts ∙ is) ∙ ap (printed_at phased s line) got ∙ prints)

    stops-history : (n : ℕ) (cause : EventCause) → halted_line s line verdict ≡ Some statuses.NotCertified
        → IsFirstFault rules all n cause → printed_line s line verdict ≡ fault_line n cause → StopsAs rules all halt out
    stops-history n cause is fault prints =
        by_history n cause (sym (first-some _ _ halt statuses.NotCertified (halts ∙ is) stops)) fault
        (printed-faulty _ _ _ (halts ∙ is) ∙ ap (printed_at phased s line) got ∙ prints)

    -- a later line stops the command
    stops-later : halted_line s line verdict ≡ None → printed_line s line verdict ≡ []
        → (halted behavior (On (after_line s line) left) lines ≡ Some halt
        → StopsAs rules all halt (printed behavior (On (after_line s line) left) lines))
        → StopsAs rules all halt out
    stops-later none nothing later =
        let next = ap (way_after phased s line) got in
        let at = later (sym (ap (λ (way : Way CertifyState Verdict). halted behavior way lines) next)
        ∙ later-some _ _ halt (halts ∙ none) stops) in
        by (printed-past (halt_at phased s line (supply (judges_line s) verdicts))
        (printed_at phased s line (supply (judges_line s) verdicts)) _ (halts ∙ none)
        (ap (printed_at phased s line) got ∙ nothing)
        ∙ ap (λ (way : Way CertifyState Verdict). printed behavior way lines) next) at
      where
        by : out ≡ printed behavior (On (after_line s line) left) lines
            → StopsAs rules all halt (printed behavior (On (after_line s line) left) lines)
            → StopsAs rules all halt out
        by is (by_limits halt-is nothing) = by_limits halt-is (is ∙ nothing)
        by is (by_header fault halt-is refused within prints) =
            by_header fault halt-is refused within (is ∙ prints)
        by is (by_history n cause halt-is fault prints) = by_history n cause halt-is fault (is ∙ prints)

  -- what is to be shown of lines from a state on
  abbrev Stops : CertifyState → List (List ℕ) → Status → Type 0
  Stops s lines halt = (left : List Verdict) → Stood rules all given s lines
      → halted behavior (On s left) lines ≡ Some halt → OutcomesLead phased s left lines
      → StopsAs rules all halt (printed behavior (On s left) lines)

  -- a line of a header
  module _ (n : ℕ) (stage : Stage) (line : List ℕ) (lines : List (List ℕ)) (halt : Status)
      (next : Stops (after_head n stage (head_line stage line)) lines halt) where
    head-stops : (verdicts : List Verdict) (read : Result HeadStep HeaderCause) → head_line stage line ≡ read
        → Stood rules all given (Heading n stage) (line ∷ lines)
        → halted behavior (On (Heading n stage) verdicts) (line ∷ lines) ≡ Some halt
        → OutcomesLead phased (Heading n stage) verdicts (line ∷ lines)
        → halted_line (Heading n stage) line None ≡ refuses (head_line stage line)
        → StopsAs rules all halt (printed behavior (On (Heading n stage) verdicts) (line ∷ lines))
    head-stops verdicts (Ok step) is stood stops leads same =
        let s : CertifyState = Heading n stage in
        let none : halted_line s line None ≡ None = same ∙ ap refuses is in
        stops-later s line lines verdicts verdicts None refl halt stops none (ap (printed_head n) is)
        (λ later. next verdicts
        (subst (λ (r : Result HeadStep HeaderCause). Stood rules all given (after_head n stage r) lines) (sym is)
        (stood-head rules all given n stage line lines (Ok step) stood is refl)) later
        (subst (λ (h : Option Status). none_after h verdicts (OutcomesLead phased (after_line s line) verdicts lines))
        none leads))
    head-stops verdicts (Err cause) is stood stops leads same =
        let s : CertifyState = Heading n stage in
        let halts : halted_line s line None ≡ Some statuses.Header = same ∙ ap refuses is in
        let fault : Fault = record { line = n; cause = cause } in
        let read : header_from n stage (line ∷ lines) ≡ Err fault =
        ap (λ (r : Result HeadStep HeaderCause). on_step n r (λ next. header_from (suc n) next lines)) is in
        let within = drop-within stood.0 all line lines stood.2 in
        stops-header s line lines verdicts verdicts None refl halt stops fault halts (sym stood.3 ∙ read)
        (omega (arith, stood.1, within)) (ap (printed_head n) is)

  -- a line of a trace
  module _ (header : Header) (first : ℕ) (texts : List (List ℕ)) (line : List ℕ) (lines : List (List ℕ))
      (halt : Status) (next : Stops (after_line (Trace header first texts) line) lines halt) (verdicts : List Verdict)
      (stood : Stood rules all given (Trace header first texts) (line ∷ lines))
      (stops : halted behavior (On (Trace header first texts) verdicts) (line ∷ lines) ≡ Some halt)
      (leads : OutcomesLead phased (Trace header first texts) verdicts (line ∷ lines)) where
    abbrev trace-state : CertifyState
    trace-state = Trace header first texts

    abbrev above : LinesAbove
    above = trace_above header texts

    abbrev TraceGoal : Type 0
    TraceGoal = StopsAs rules all halt (printed behavior (On trace-state verdicts) (line ∷ lines))

    trace-on : halted_line trace-state line None ≡ None → TraceGoal
    trace-on none = stops-later trace-state line lines verdicts verdicts None refl halt stops none refl
        (λ later. next verdicts
        (stood-trace rules all given header first texts line lines (is_history_line line) refl stood) later
        (subst (λ (h : Option Status). none_after h verdicts (OutcomesLead phased (after_line trace-state line) verdicts
        lines)) none leads))

    trace-stops : (ends over : Bool) → is_history_line line ≡ ends
        → exceeds_limit above.lines (judged header above.lines line) ≡ over
        → halted_line trace-state line None ≡ halted_in_trace above header line → TraceGoal
    trace-stops true over is exceeded same =
        trace-on (same ∙ ap (λ (b : Bool). if b then None else exceeds (exceeds_limit above.lines
        (judged header above.lines line))) is)
    trace-stops false true is exceeded same =
        stops-limit trace-state line lines verdicts verdicts None refl halt stops
        (same ∙ ap (λ (b : Bool). if b then None else exceeds (exceeds_limit above.lines
        (judged header above.lines line))) is ∙ ap exceeds exceeded)
    trace-stops false false is exceeded same =
        trace-on (same ∙ ap (λ (b : Bool). if b then None else exceeds (exceeds_limit above.lines
        (judged header above.lines line))) is ∙ ap exceeds exceeded)

  short-on : (lines : List (List ℕ)) → halted behavior Short lines ≡ None
  short-on [] = refl
  short-on (line ∷ lines) = short-on lines

  -- a line of a history
  module _ (header : Header) (first : ℕ) (texts written : List (List ℕ)) (line : List ℕ) (lines : List (List ℕ))
      (halt : Status) (next : Stops (Written header first texts (written ++ line ∷ [])) lines halt) where
    abbrev here : CertifyState
    here = Written header first texts written

    abbrev number : ℕ
    number = first + length texts + 1 + length written

    abbrev WrittenGoal : List Verdict → Type 0
    WrittenGoal left = StopsAs rules all halt (printed behavior (On here left) (line ∷ lines))

    beyond-stops : (verdicts : List Verdict) → halted behavior (On here verdicts) (line ∷ lines) ≡ Some halt
        → nat_lt most_lines number ≡ true → WrittenGoal verdicts
    beyond-stops verdicts stops is =
        stops-limit here line lines verdicts verdicts None (ap (λ (b : Bool). supply (not b) verdicts) is) halt stops
        (ap (λ (b : Bool). if b then Some TooLong else None) is)

    within-stops : (left : List Verdict) → Stood rules all given here (line ∷ lines)
        → nat_lt most_lines number ≡ false → halted behavior (On here left) (line ∷ lines) ≡ Some halt
        → OutcomesLead phased here left (line ∷ lines) → WrittenGoal left
    within-stops [] stood within stops leads =
        let lacks : supply (judges_line here) [] ≡ Lacks =
        ap (λ (b : Bool). supply {O = Verdict} (not b) []) within in
        let none = ap (λ (way : Way CertifyState Verdict). halted behavior way lines)
        (ap (way_after phased here line) lacks) ∙ short-on lines in
        let clash : None ≡ Some halt = sym none ∙ later-some _ _ halt (ap (halt_at phased here line) lacks) stops in
        absurd cc
    within-stops (Taken ∷ left) stood within stops leads =
        let got : supply (judges_line here) (Taken ∷ left) ≡ Gives (Some Taken) left =
        ap (λ (b : Bool). supply (not b) (Taken ∷ left)) within in
        let led = subst (λ (b : Bool). leads_on (not b) (Taken ∷ left) (phased.Allows here line)
        (λ given left. none_after (halted_line here line given) left
        (OutcomesLead phased (after_line here line) left lines))) within leads in
        let none : halted_line here line (Some Taken) ≡ None =
        ap (λ (b : Bool). if b then Some TooLong else None) within in
        stops-later here line lines (Taken ∷ left) left (Some Taken) got halt stops none refl
        (λ later. next left (stood-written rules all given header first texts written line lines led.0 stood) later
        (subst (λ (h : Option Status). none_after h left (OutcomesLead phased (after_line here line) left lines)) none
        led.1))
    within-stops (Refused cause ∷ left) stood within stops leads =
        let got : supply (judges_line here) (Refused cause ∷ left) ≡ Gives (Some (Refused cause)) left =
        ap (λ (b : Bool). supply (not b) (Refused cause ∷ left)) within in
        let led = subst (λ (b : Bool). leads_on (not b) (Refused cause ∷ left) (phased.Allows here line)
        (λ given left. none_after (halted_line here line given) left
        (OutcomesLead phased (after_line here line) left lines))) within leads in
        stops-history here line lines (Refused cause ∷ left) left (Some (Refused cause)) got halt stops number cause
        (ap (λ (b : Bool). if b then Some TooLong else Some statuses.NotCertified) within)
        (record {
          header = header;
          first = first;
          trace = texts;
          before = written;
          line = line;
          after = lines;
          has = stood.0;
          begun = stood.1;
          fault = led.0;
          number = refl;
        }) refl
    within-stops (Whole phases events ∷ left) stood within stops leads =
        absurd (subst (λ (b : Bool). leads_on (not b) (Whole phases events ∷ left) (phased.Allows here line)
        (λ given left. none_after (halted_line here line given) left
        (OutcomesLead phased (after_line here line) left lines))) within leads).0

  pub stop : (s : CertifyState) (lines : List (List ℕ)) (halt : Status) → Stops s lines halt
  stop s [] halt verdicts stood stops leads = absurd cc
  stop (Heading n stage) (line ∷ lines) halt verdicts stood stops leads =
      let s : CertifyState = Heading n stage in
      by_limit n (λ beyond. stops-limit s line lines verdicts verdicts None refl halt stops
      (ap (λ (b : Bool). if b then Some TooLong else refuses (head_line stage line)) beyond))
      (λ within. head-stops n stage line lines halt
      (λ left stood stops leads. stop (after_head n stage (head_line stage line)) lines halt left stood stops leads)
      verdicts (head_line stage line) refl stood stops leads
      (ap (λ (b : Bool). if b then Some TooLong else refuses (head_line stage line)) within))
  stop (Trace header first texts) (line ∷ lines) halt verdicts stood stops leads =
      let above = trace_above header texts in
      by_limit (first + length texts)
      (λ beyond. stops-limit (Trace header first texts) line lines verdicts verdicts None refl halt stops
      (ap (λ (b : Bool). if b then Some TooLong else halted_in_trace above header line) beyond))
      (λ within. trace-stops header first texts line lines halt
      (λ left stood stops leads. stop (after_line (Trace header first texts) line) lines halt left stood stops leads)
      verdicts stood stops leads (is_history_line line) (exceeds_limit above.lines (judged header above.lines line))
      refl refl (ap (λ (b : Bool). if b then Some TooLong else halted_in_trace above header line) within))
  stop (Written header first texts written) (line ∷ lines) halt verdicts stood stops leads =
      let next : Stops (Written header first texts (written ++ line ∷ [])) lines halt =
      λ left stood stops leads. stop (Written header first texts (written ++ line ∷ [])) lines halt left stood
      stops leads in
      by_limit (first + length texts + 1 + length written)
      (beyond-stops header first texts written line lines halt next verdicts stops)
      (λ within. within-stops header first texts written line lines halt next verdicts stood within stops leads)
