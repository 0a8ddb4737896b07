-- How the command takes a line, and comes to the end of its input.
use Rattle.std.proofs.Common.{◌≡◌, ◌≢◌, ℕ, suc, ◌+◌, ◌<◌, ◌≤◌, nat_lt, Bool, true, false, List, [], ◌∷◌, ◌++◌, Option}
use Rattle.std.proofs.Common.{Some, None, refl, sym, ap, ap₂, subst, ◌∙◌, arith, IfOk, append-nil, length}
use Rattle.std.proofs.Common.{length-append}
use Rattle.std.specs.Prelude.{OnOk, Result, Ok, Err, not, if◌then◌else◌}
use Rattle.std.proofs.lemmas.Bool.Decides.{nat_tests}
use Rattle.vms_base.specs.declared.headers.Header.{Header}
use Rattle.vms_header.specs.declared.causes.HeaderCause.{HeaderCause}
use Rattle.vms_header.specs.Common.{Draft, header_of, Stage, HeadStep, head_line, missing, Goes, Ends}
use Rattle.vms_script.specs.Common.{Segment, judged}
use Rattle.vms_stream.specs.declared.statuses.Status.{Status}
use Rattle.vms_stream.specs.declared.statuses.Status.TheVariants.{TooLong}
use Rattle.vms_stream.specs.declared.statuses.Status.TheVariants as statuses
use Rattle.vms_stream.specs.Common.{Closes, ClosesPhased, Grows, MayGive, On, PhasedBehavior, StandsOn, TakesLines}
use Rattle.vms_stream.specs.Common.{TakesPhased, shown_on, with_outcomes}
use Rattle.vms_stream.proofs.Common.{Closes-given, ClosesPhased-also, ClosesPhased-given, Grows-nil, TakesLines-given}
use Rattle.vms_stream.proofs.Common.{TakesLines-given_exceeding, TakesLines-given_refused, TakesPhased-also}
use Rattle.vms_stream.proofs.Common.{TakesPhased-given}
use Rattle.vms_stream.proofs.GivenOutcomes.{TakesLines-given_answered}
use Rattle.vms_command.specs.Common.{exceeds, exceeds_limit, halted_at, header_line, most_lines, refuses}
use Rattle.vms_phase_checks.specs.declared.faults.EventCause.{EventCause}
use Rattle.vms_phase_checks.specs.declared.faults.EventCause.TheVariants.{Incomplete}
use Rattle.vms_certifying.specs.declared.jobs.CertifyJob.{CertifyJob}
use Rattle.vms_certifying.specs.declared.jobs.Work.{Work}
use Rattle.vms_certifying.specs.declared.jobs.Work.TheVariants as works
use Rattle.vms_certifying.specs.declared.trace_parts.TracePart.{TracePart}
use Rattle.vms_certifying.specs.declared.verdicts.Verdict.{Verdict}
use Rattle.vms_certifying.specs.declared.verdicts.Verdict.TheVariants.{Refused, Taken}
use Rattle.vms_certifying.specs.declared.verdicts.Verdicts.{Verdicts}
use Rattle.vms_certifying.specs.declared.written_parts.WrittenPart.{WrittenPart}
use Rattle.vms_certifying.specs.Certifying.{CertifyState, after_head, certifying, halted_in_trace, halted_line}
use Rattle.vms_certifying.specs.Certifying.{segments_in, trace_above}
use Rattle.vms_certifying.specs.Certifying.CertifyState.{Heading, Trace, Written}
use Rattle.vms_certifying.specs.HistoryLines.{is_history_line}
use Rattle.vms_certifying.specs.HistoryRules.{HistoryRules}
use Rattle.vms_certifying.specs.JobStates.{BeginsHistory, EndsTrace, InTrace, IsHead, IsWork, MayEndTrace, StandsAt}
use Rattle.vms_certifying.specs.JobStates.{StepsToWork, TakesHeadLine, made_by, shown_nothing}
use Rattle.vms_certifying.specs.Printing.{fault_line}
use Rattle.vms_certifying.specs.TraceParts.{KeepsTrace, TakesTraceLine}
use Rattle.vms_certifying.specs.Verdicts.{verdicts_of}
use Rattle.vms_certifying.specs.WrittenParts.{InSomeWritten, InWritten, KeepsWritten}

-- a fault alone stops a header
only_refuses : (read : Result HeadStep HeaderCause) (status : Status) → Some status ≡ refuses read
    → status ≡ statuses.Header
only_refuses (Ok read) status is = absurd cc
only_refuses (Err cause) status is = cc

-- a limit alone stops a trace
only_exceeds : (over : Bool) (status : Status) → Some status ≡ exceeds over → status ≡ TooLong
only_exceeds true status is = cc
only_exceeds false status is = absurd cc

beyond_limit : (n : ℕ) (halt : Option Status) → most_lines < n → halted_at n halt ≡ Some TooLong
beyond_limit n halt beyond = let test : nat_lt most_lines n ≡ true = grind (arith, nat_tests) in rw test refl

within_limit : (n : ℕ) (halt : Option Status) → n ≤ most_lines → halted_at n halt ≡ halt
within_limit n halt within = let test : nat_lt most_lines n ≡ false = grind (arith, nat_tests) in rw test refl

none-beyond : (n : ℕ) → most_lines < n → not (nat_lt most_lines n) ≡ false
none-beyond n beyond = let test : nat_lt most_lines n ≡ true = grind (arith, nat_tests) in ap not test

judged-within : (n : ℕ) → n ≤ most_lines → not (nat_lt most_lines n) ≡ true
judged-within n within = let test : nat_lt most_lines n ≡ false = grind (arith, nat_tests) in ap not test

module _ {J : Type 0} (rules : HistoryRules) (Gathers : Header → List Segment → J → Type 0)
    (Accepts : Header → List Segment → List (List ℕ) → J → Type 0) where
  abbrev phased : PhasedBehavior CertifyState Verdict
  phased = certifying rules

  abbrev stands : CertifyJob J → CertifyState → Type 0
  stands = StandsAt Gathers Accepts

  pub trace-at_work : (n : ℕ) (work : Work J) (part : TracePart J) (state : CertifyState) → work ≡ works.Trace part
      → IsWork Gathers Accepts n work state → InTrace Gathers Accepts n part state
  trace-at_work n work part state is here = subst (λ (w : Work J). IsWork Gathers Accepts n w state) is here

  pub written-at_work : (n : ℕ) (work : Work J) (part : WrittenPart J) (state : CertifyState)
      → work ≡ works.Written part → IsWork Gathers Accepts n work state → InWritten Accepts n part state
  written-at_work n work part state is here = subst (λ (w : Work J). IsWork Gathers Accepts n w state) is here

  -- what a call of a part asks
  pub SomeTrace-at_work : (job : CertifyJob J) (part : TracePart J) (state : CertifyState) → job.line ≤ most_lines
      → job.work ≡ works.Trace part → stands job state
      → (first : ℕ) × (texts : List (List ℕ)) × KeepsTrace Gathers first texts part × (length texts ≤ 1000000)
  SomeTrace-at_work job part state within is here =
      let at = trace-at_work job.line job.work part state is here.work in
      (at.first, at.texts, at.keeps, omega (arith, at.number, within))

  pub MayEndTrace-at_work : (job : CertifyJob J) (state : CertifyState) → job.line ≤ most_lines → stands job state
      → MayEndTrace Gathers Accepts job.work
  MayEndTrace-at_work job state within here = by job.work here.work
    where
      by : (work : Work J) → IsWork Gathers Accepts job.line work state → MayEndTrace Gathers Accepts work
      by (works.Trace part) at = (at.first, at.texts, at.keeps, omega (arith, at.number, within))
      by (works.Header reader) at = tt
      by (works.Written part) at = tt
      by works.Stopped at = tt

  pub SomeWritten-at_work : (job : CertifyJob J) (part : WrittenPart J) (state : CertifyState)
      → job.work ≡ works.Written part → stands job state → InSomeWritten Accepts job.line part
  SomeWritten-at_work job part state is here = (state, written-at_work job.line job.work part state is here.work)

  -- a line past the limit on lines
  pub line-beyond : {E : Type 0} (job : CertifyJob J) (made : Option (List Verdict)) (line out : List ℕ)
      (next : CertifyState → Type 0) → most_lines < job.line
      → TakesPhased {E = E} phased (stands job) next made made line (Ok (Some TooLong)) out out
  line-beyond job made line out next beyond =
      TakesPhased-given phased made made line out out (Ok (Some TooLong)) (stands job) next None
      (Grows-nil made) (λ s here. tt) (λ s here. by job.work s here.work)
    where
      at : (s : CertifyState) → phased.ends_phase s line ≡ false → halted_line s line None ≡ Some TooLong
          → TakesLines (with_outcomes phased []) (StandsOn next) (On s []) (line ∷ []) (Some TooLong) out out
      at s ends halts = TakesLines-given_exceeding phased next s line out out None ends halts refl

      by : (work : Work J) (s : CertifyState) → IsWork Gathers Accepts job.line work s
          → TakesLines (with_outcomes phased []) (StandsOn next) (On s []) (line ∷ []) (Some TooLong) out out
      by (works.Header reader) s is = at s (ap (λ (x : CertifyState). phased.ends_phase x line) is)
          (ap (λ (x : CertifyState). halted_line x line None) is ∙ beyond_limit job.line _ beyond)
      by (works.Trace part) s here = at s (ap (λ (x : CertifyState). phased.ends_phase x line) here.state_is)
          (ap (λ (x : CertifyState). halted_line x line None) here.state_is
          ∙ beyond_limit (here.first + length here.texts) _ (omega (arith, beyond, here.number)))
      by (works.Written part) s here =
          let n = here.first + length here.texts + 1 + length here.lines in
          let over : most_lines < n = omega (arith, beyond, here.number) in
          at s (ap (λ (x : CertifyState). phased.ends_phase x line) here.state_is ∙ none-beyond n over)
          (ap (λ (x : CertifyState). halted_line x line None) here.state_is ∙ beyond_limit n _ over)
      by works.Stopped s here = absurd here

  module _ (before after : CertifyJob J) (line out out' : List ℕ) (next : after.line ≡ before.line + 1)
      (within : before.line ≤ most_lines) where
    stands-after : (state : CertifyState) → IsWork Gathers Accepts after.line after.work state → stands after state
    stands-after state work = record {
      least = omega (arith, next);
      most = omega (arith, next, within);
      work = work;
    }

    -- a line of the trace
    module _ (part part' : TracePart J) (is : before.work ≡ works.Trace part) (is' : after.work ≡ works.Trace part')
        (goes-on : is_history_line line ≡ false) where
      module _ (first : ℕ) (texts : List (List ℕ)) (number : before.line ≡ first + length texts) where
        abbrev state : CertifyState
        state = Trace part.header first texts

        -- the limits stop the command there
        halts-trace : (halt : Option Status) → TakesTraceLine Gathers line halt part part' first texts
            → halted_line state line None ≡ halt
        halts-trace halt took =
            within_limit (first + length texts) (halted_in_trace (trace_above part.header texts) part.header line)
            (omega (arith, number, within))
            ∙ ap (λ (ends : Bool). if ends then None else exceeds (exceeds_limit (trace_above part.header texts).lines
            (judged part.header (trace_above part.header texts).lines line))) goes-on
            ∙ sym took.halt_is

        taken-trace : (halt : Option Status) → TakesTraceLine Gathers line halt part part' first texts
            → TakesLines (with_outcomes phased []) (StandsOn (stands after)) (On state []) (line ∷ []) halt out out
        taken-trace None took =
            TakesLines-given phased (stands after) state line out out None refl (halts-trace None took)
            (sym (append-nil out))
            (subst (λ (ends : Bool). stands after (if ends then Written part.header first texts []
            else Trace part.header first (texts ++ line ∷ []))) (sym goes-on)
            (stands-after (Trace part.header first (texts ++ line ∷ []))
            (subst (λ (w : Work J). IsWork Gathers Accepts after.line w
            (Trace part.header first (texts ++ line ∷ []))) (sym is')
            (record {
              first = first;
              texts = texts ++ line ∷ [];
              keeps = took.keeps refl;
              number = omega (arith, next, number, length-append texts (line ∷ []));
              state_is = ap (λ (h : Header). Trace h first (texts ++ line ∷ [])) (sym took.same);
            }))))
        taken-trace (Some halt) took =
            let over = exceeds_limit (trace_above part.header texts).lines
            (judged part.header (trace_above part.header texts).lines line) in
            let only : halt ≡ TooLong = only_exceeds over halt took.halt_is in
            subst (λ (h : Status). TakesLines (with_outcomes phased []) (StandsOn (stands after)) (On state [])
            (line ∷ []) (Some h) out out) (sym only)
            (TakesLines-given_exceeding phased (stands after) state line out out None refl
            (halts-trace (Some halt) took ∙ ap Some only) refl)

      pub trace-takes : {E : Type 0} (made : Option (List Verdict)) (result : Result (Option Status) E)
          → IfOk result (λ halt. (first : ℕ) (texts : List (List ℕ)) → before.line ≡ first + length texts
          → KeepsTrace Gathers first texts part → TakesTraceLine Gathers line halt part part' first texts)
          → TakesPhased phased (stands before) (stands after) made made line result out out
      trace-takes {E} made result goes =
          TakesPhased-given phased made made line out out result (stands before) (stands after) None (Grows-nil made)
          (λ s here. tt) (by result goes)
        where
          by : (r : Result (Option Status) E)
              → IfOk r (λ halt. (first : ℕ) (texts : List (List ℕ)) → before.line ≡ first + length texts
              → KeepsTrace Gathers first texts part → TakesTraceLine Gathers line halt part part' first texts)
              → IfOk r (λ halt. (s : CertifyState) → stands before s
              → TakesLines (with_outcomes phased []) (StandsOn (stands after)) (On s []) (line ∷ []) halt out out)
          by (Ok halt) goes = λ s here.
              let at = trace-at_work before.line before.work part s is here.work in
              subst (λ (x : CertifyState). TakesLines (with_outcomes phased []) (StandsOn (stands after)) (On x [])
              (line ∷ []) halt out out) (sym at.state_is)
              (taken-trace at.first at.texts at.number halt (goes at.first at.texts at.number at.keeps))
          by (Err error) goes = tt

    -- the line that ends the trace
    module _ (part : TracePart J) (is : before.work ≡ works.Trace part) (ends : is_history_line line ≡ true) where
      begun-work : (first : ℕ) (texts : List (List ℕ)) → KeepsTrace Gathers first texts part
          → before.line ≡ first + length texts → (work : Work J) → BeginsHistory Gathers Accepts part work
          → IsWork Gathers Accepts after.line work (Written part.header first texts [])
      begun-work first texts keeps number (works.Written written) begins =
          let begun = begins first texts keeps in
          record {
            first = first;
            texts = texts;
            lines = [];
            keeps = begun.1;
            number = omega (arith, next, number);
            state_is = ap (λ (h : Header). Written h first texts []) (sym begun.0);
          }
      begun-work first texts keeps number (works.Header reader) begins = absurd begins
      begun-work first texts keeps number (works.Trace other) begins = absurd begins
      begun-work first texts keeps number works.Stopped begins = absurd begins

      pub history-begins : {E : Type 0} (made : Option (List Verdict)) (result : Result (Option Status) E)
          → OnOk result (EndsTrace Gathers Accepts before.work after.work) → IfOk result (λ halt. halt ≡ None)
          → TakesPhased phased (stands before) (stands after) made made line result out out
      history-begins {E} made result begins none =
          TakesPhased-given phased made made line out out result (stands before) (stands after) None (Grows-nil made)
          (λ s here. tt) (by result begins none)
        where
          at-end : (s : CertifyState) → stands before s → EndsTrace Gathers Accepts before.work after.work
              → TakesLines (with_outcomes phased []) (StandsOn (stands after)) (On s []) (line ∷ []) None out out
          at-end s here begins =
              let at = trace-at_work before.line before.work part s is here.work in
              let begun = subst (λ (w : Work J). EndsTrace Gathers Accepts w after.work) is begins in
              subst (λ (x : CertifyState). TakesLines (with_outcomes phased []) (StandsOn (stands after)) (On x [])
              (line ∷ []) None out out) (sym at.state_is)
              (TakesLines-given phased (stands after) (Trace part.header at.first at.texts) line out out None refl
              (within_limit (at.first + length at.texts)
              (halted_in_trace (trace_above part.header at.texts) part.header line) (omega (arith, at.number, within))
              ∙ ap (λ (b : Bool). if b then None else exceeds (exceeds_limit (trace_above part.header at.texts).lines
              (judged part.header (trace_above part.header at.texts).lines line))) ends)
              (sym (append-nil out))
              (subst (λ (b : Bool). stands after (if b then Written part.header at.first at.texts []
              else Trace part.header at.first (at.texts ++ line ∷ []))) (sym ends)
              (stands-after (Written part.header at.first at.texts [])
              (begun-work at.first at.texts at.keeps at.number after.work begun))))

          by : (r : Result (Option Status) E) → OnOk r (EndsTrace Gathers Accepts before.work after.work)
              → IfOk r (λ halt. halt ≡ None)
              → IfOk r (λ halt. (s : CertifyState) → stands before s
              → TakesLines (with_outcomes phased []) (StandsOn (stands after)) (On s []) (line ∷ []) halt out out)
          by (Ok halt) begins none = λ s here.
              subst (λ (h : Option Status). TakesLines (with_outcomes phased []) (StandsOn (stands after)) (On s [])
              (line ∷ []) h out out) (sym none) (at-end s here begins)
          by (Err error) begins none = tt

    -- a line of the history
    pub written-takes : {E : Type 0} (part part' : WrittenPart J) (made made' : Option (List Verdict))
        (result : Result (Option Status) E) → before.work ≡ works.Written part → after.work ≡ works.Written part'
        → TakesPhased phased (InWritten Accepts before.line part) (InWritten Accepts (suc before.line) part') made made'
        line result out out'
        → TakesPhased phased (stands before) (stands after) made made' line result out out'
    written-takes part part' made made' result is is' took =
        TakesPhased-also phased made made' line out out' result (InWritten Accepts before.line part)
        (InWritten Accepts (suc before.line) part') (stands before) (stands after)
        (λ s here. written-at_work before.line before.work part s is here.work)
        (λ s here. stands-after s (subst (λ (w : Work J). IsWork Gathers Accepts after.line w s) (sym is')
        (subst (λ (k : ℕ). InWritten Accepts k part' s) (omega (arith, next)) here)))
        took

    -- a line of a header
    head_work : (stage : Stage) (work : Work J) → IsHead Gathers Accepts stage work
        → IsWork Gathers Accepts after.line work (Heading (suc before.line) stage)
    head_work stage (works.Header reader) is =
        ap₂ (λ (k : ℕ) (s : Stage). Heading k s) (omega (arith, next)) (sym is)
    head_work stage (works.Trace part) is = absurd is
    head_work stage (works.Written part) is = absurd is
    head_work stage works.Stopped is = absurd is

    begun_work : (draft : Draft) (work : Work J) → StepsToWork Gathers Accepts (Ok (Ends draft)) work
        → IsWork Gathers Accepts after.line work (Trace (header_of draft) (suc before.line) [])
    begun_work draft (works.Trace part) here = record {
      first = suc before.line;
      texts = [];
      keeps = here.1 (suc before.line);
      number = omega (arith, next);
      state_is = ap (λ (h : Header). Trace h (suc before.line) []) (sym here.0);
    }
    begun_work draft (works.Header reader) here = absurd here
    begun_work draft (works.Written part) here = absurd here
    begun_work draft works.Stopped here = absurd here

    step_work : (stage : Stage) (read : Result HeadStep HeaderCause) → StepsToWork Gathers Accepts read after.work
        → IsWork Gathers Accepts after.line after.work (after_head before.line stage read)
    step_work stage (Ok (Goes stage')) leads = head_work stage' after.work leads
    step_work stage (Ok (Ends draft)) leads = begun_work draft after.work leads
    step_work stage (Err cause) leads = absurd leads

    head_line_taken : (halt : Option Status) (stage : Stage)
        → TakesHeadLine Gathers Accepts before.line (head_line stage line) halt out out' after.work
        → TakesLines (with_outcomes phased []) (StandsOn (stands after)) (On (Heading before.line stage) [])
        (line ∷ []) halt out out'
    head_line_taken None stage goes =
        TakesLines-given phased (stands after) (Heading before.line stage) line out out' None refl
        (within_limit before.line _ within ∙ sym goes.halt_is) goes.printed
        (stands-after (after_head before.line stage (head_line stage line))
        (step_work stage (head_line stage line) (goes.leads refl)))
    head_line_taken (Some statuses.Header) stage goes =
        TakesLines-given_refused phased (stands after) (Heading before.line stage) line out out' None refl
        (within_limit before.line _ within ∙ sym goes.halt_is) goes.printed
    head_line_taken (Some _) stage goes = let only = only_refuses _ _ goes.halt_is in absurd cc

    from_head : (halt : Option Status) (work : Work J) → ((part : TracePart J) → work ≢ works.Trace part)
        → ((part : WrittenPart J) → work ≢ works.Written part)
        → ((stage : Stage) → IsHead Gathers Accepts stage work
        → TakesHeadLine Gathers Accepts before.line (head_line stage line) halt out out' after.work)
        → (s : CertifyState) → IsWork Gathers Accepts before.line work s
        → TakesLines (with_outcomes phased []) (StandsOn (stands after)) (On s []) (line ∷ []) halt out out'
    from_head halt (works.Header reader) no_trace no_history goes s is =
        subst (λ (x : CertifyState). TakesLines (with_outcomes phased []) (StandsOn (stands after)) (On x [])
        (line ∷ []) halt out out') (sym is) (head_line_taken halt reader (goes reader refl))
    from_head halt (works.Trace part) no_trace no_history goes s here = absurd (no_trace part refl)
    from_head halt (works.Written part) no_trace no_history goes s here = absurd (no_history part refl)
    from_head halt works.Stopped no_trace no_history goes s here = absurd here

  -- after the line that ends the trace
  pub history-takes : {E : Type 0} (before after : CertifyJob J) (line out : List ℕ) → before.line ≤ most_lines
      → (part : TracePart J) → before.work ≡ works.Trace part → is_history_line line ≡ true
      → (made : Option (List Verdict)) (result : Result (Option Status) E)
      → OnOk result (EndsTrace Gathers Accepts (works.Trace part) after.work)
      → OnOk result (after.line ≡ before.line + 1) → IfOk result (λ halt. halt ≡ None)
      → TakesPhased phased (stands before) (stands after) made made line result out out
  history-takes before after line out within part is ends made (Ok halt) begins next none =
      history-begins before after line out out next within part is ends made (Ok halt)
      (subst (λ (w : Work J). EndsTrace Gathers Accepts w after.work) (sym is) begins) none
  history-takes before after line out within part is ends made (Err error) begins next none =
      TakesPhased-given phased made made line out out (Err error) (stands before) (stands after) None (Grows-nil made)
      (λ s here. tt) tt

  -- after a line of a header
  pub head-takes : {E : Type 0} (before after : CertifyJob J) (line out out' : List ℕ) → before.line ≤ most_lines
      → (made : Option (List Verdict)) (result : Result (Option Status) E)
      → ((part : TracePart J) → before.work ≢ works.Trace part)
      → ((part : WrittenPart J) → before.work ≢ works.Written part)
      → IfOk result (λ halt. (stage : Stage) → IsHead Gathers Accepts stage before.work
      → TakesHeadLine Gathers Accepts before.line (head_line stage line) halt out out' after.work)
      → OnOk result (after.line ≡ before.line + 1)
      → TakesPhased phased (stands before) (stands after) made made line result out out'
  head-takes {E} before after line out out' within made result no_trace no_history goes next =
      TakesPhased-given phased made made line out out' result (stands before) (stands after) None
      (Grows-nil made) (λ s here. tt) (by result goes next)
    where
      by : (r : Result (Option Status) E)
          → IfOk r (λ halt. (stage : Stage) → IsHead Gathers Accepts stage before.work
          → TakesHeadLine Gathers Accepts before.line (head_line stage line) halt out out' after.work)
          → OnOk r (after.line ≡ before.line + 1)
          → IfOk r (λ halt. (s : CertifyState) → stands before s
          → TakesLines (with_outcomes phased []) (StandsOn (stands after)) (On s []) (line ∷ []) halt out out')
      by (Ok halt) goes next =
          λ s here. from_head before after line out out' next within halt before.work no_trace no_history goes s
          here.work
      by (Err error) goes next = tt

  -- the history's part takes a line
  module _ (n : ℕ) (part part' : WrittenPart J) (line out out' : List ℕ) (old new : Verdicts) where
    module _ (within : n ≤ most_lines) where
      number-within : (state : CertifyState) (here : InWritten Accepts n part state)
          → here.first + length here.texts + 1 + length here.lines ≤ most_lines
      number-within state here = omega (arith, within, here.number)

      judges-here : (state : CertifyState) → InWritten Accepts n part state → phased.ends_phase state line ≡ true
      judges-here state here =
          ap (λ (x : CertifyState). phased.ends_phase x line) here.state_is
          ∙ judged-within (here.first + length here.texts + 1 + length here.lines) (number-within state here)

      may-judge : (verdict : Verdict)
          → ((first : ℕ) (texts lines : List (List ℕ)) → KeepsWritten Accepts first texts lines part
          → phased.Allows (Written part.header first texts lines) line verdict)
          → (state : CertifyState) → InWritten Accepts n part state
          → MayGive (phased.ends_phase state line) (phased.Allows state line) (Some verdict)
      may-judge verdict allows state here = (
        judges-here state here,
        subst (λ (x : CertifyState). phased.Allows x line verdict) (sym here.state_is)
            (allows here.first here.texts here.lines here.keeps),
      )

      -- it goes on with the history
      pub written-goes : {E : Type 0} → verdicts_of new ≡ verdicts_of old ++ Taken ∷ [] → part'.header ≡ part.header
          → part'.refused ≡ part.refused
          → ((segments : List Segment) (lines : List (List ℕ)) → Accepts part.header segments lines part.history
          → rules.Begins part.header segments (lines ++ line ∷ [])
          × Accepts part.header segments (lines ++ line ∷ []) part'.history)
          → TakesPhased {E = E} phased (InWritten Accepts n part) (InWritten Accepts (suc n) part') (made_by old)
          (made_by new) line (Ok None) out out
      written-goes added header refused takes =
          TakesPhased-given phased (made_by old) (made_by new) line out out (Ok None) (InWritten Accepts n part)
          (InWritten Accepts (suc n) part') (Some Taken) (ap Some added)
          (may-judge Taken
          (λ first texts lines keeps. (takes (segments_in part.header first texts) lines keeps.accepts).0))
          (λ state here.
          let keeps = here.keeps in
          let first = here.first in
          let texts = here.texts in
          let lines = here.lines in
          subst (λ (x : CertifyState). TakesLines (with_outcomes phased (Taken ∷ []))
          (StandsOn (InWritten Accepts (suc n) part')) (On x (Taken ∷ [])) (line ∷ []) None out out)
          (sym here.state_is)
          (TakesLines-given phased (InWritten Accepts (suc n) part') (Written part.header first texts lines) line out
          out (Some Taken)
          (judged-within (first + length texts + 1 + length lines) (number-within state here))
          (within_limit (first + length texts + 1 + length lines) None (number-within state here))
          (sym (append-nil out))
          (record {
            first = first;
            texts = texts;
            lines = lines ++ line ∷ [];
            keeps = stays first texts lines keeps;
            number = omega (arith, here.number, length-append lines (line ∷ []));
            state_is = ap (λ (h : Header). Written h first texts (lines ++ line ∷ [])) (sym header);
          })))
        where
          stays : (first : ℕ) (texts lines : List (List ℕ)) → KeepsWritten Accepts first texts lines part
              → KeepsWritten Accepts first texts (lines ++ line ∷ []) part'
          stays first texts lines keeps = record {
            header = rw header keeps.header;
            refused = refused ∙ keeps.refused ∙ ap (λ (h : Header). (trace_above h texts).refused) (sym header);
            accepts = subst (λ (h : Header). Accepts h (segments_in h first texts) (lines ++ line ∷ []) part'.history)
                (sym header) (takes (segments_in part.header first texts) lines keeps.accepts).1;
          }

      -- it is at fault
      pub written-refused : {E : Type 0} (cause : EventCause) → verdicts_of new ≡ verdicts_of old ++ Refused cause ∷ []
          → out' ≡ out ++ fault_line n cause
          → ((segments : List Segment) (lines : List (List ℕ)) → Accepts part.header segments lines part.history
          → rules.IsFault part.header segments lines line cause)
          → TakesPhased {E = E} phased (InWritten Accepts n part) (InWritten Accepts (suc n) part') (made_by old)
          (made_by new) line (Ok (Some statuses.NotCertified)) out out'
      written-refused cause added prints fault =
          TakesPhased-given phased (made_by old) (made_by new) line out out' (Ok (Some statuses.NotCertified))
          (InWritten Accepts n part) (InWritten Accepts (suc n) part') (Some (Refused cause)) (ap Some added)
          (may-judge (Refused cause)
          (λ first texts lines keeps. fault (segments_in part.header first texts) lines keeps.accepts))
          (λ state here.
          let first = here.first in
          let texts = here.texts in
          let lines = here.lines in
          subst (λ (x : CertifyState). TakesLines (with_outcomes phased (Refused cause ∷ []))
          (StandsOn (InWritten Accepts (suc n) part')) (On x (Refused cause ∷ [])) (line ∷ []) (Some statuses.NotCertified)
          out out') (sym here.state_is)
          (TakesLines-given_answered phased (InWritten Accepts (suc n) part') (Written part.header first texts lines)
          line out out' (Some (Refused cause))
          (judged-within (first + length texts + 1 + length lines) (number-within state here))
          statuses.NotCertified (λ text later. refl)
          (within_limit (first + length texts + 1 + length lines) (Some statuses.NotCertified) (number-within state here))
          (prints ∙ ap (λ (k : ℕ). out ++ fault_line k cause) here.number)))

      -- memory ran out, and no verdict was given
      pub written-failed : {E : Type 0} (error : E) → verdicts_of new ≡ verdicts_of old
          → TakesPhased phased (InWritten Accepts n part) (InWritten Accepts (suc n) part') (made_by old) (made_by new)
          line (Err error) out out'
      written-failed error same =
          TakesPhased-given phased (made_by old) (made_by new) line out out' (Err error) (InWritten Accepts n part)
          (InWritten Accepts (suc n) part') None
          (subst (λ (made : Option (List Verdict)). Grows (made_by old) made []) (ap Some (sym same))
          (Grows-nil (made_by old))) (λ state here. tt) tt

    -- and comes to the end of the input
    module _ (verdict : Verdict) (added : verdicts_of new ≡ verdicts_of old ++ verdict ∷ []) (ending : Status)
        (allows : (first : ℕ) (texts lines : List (List ℕ)) → KeepsWritten Accepts first texts lines part
        → phased.AllowsLast (Written part.header first texts lines) verdict)
        (ends : (first : ℕ) (texts lines : List (List ℕ)) → KeepsWritten Accepts first texts lines part
        → ending ≡ phased.ends (Written part.header first texts lines) (Some verdict))
        (prints : (first : ℕ) (texts lines : List (List ℕ)) → n ≡ first + length texts + 1 + length lines
        → out' ≡ out ++ phased.last (Written part.header first texts lines) (Some verdict)) where
      pub written-ends : {E : Type 0}
          → ClosesPhased {E = E} phased (InWritten Accepts n part) shown_nothing (made_by old) (made_by new)
          (Ok ending) out out'
      written-ends =
          ClosesPhased-given phased shown_nothing (made_by old) (made_by new) out out' (Ok ending)
          (InWritten Accepts n part) (Some verdict) (ap Some added)
          (λ state here. (
            ap (λ (x : CertifyState). phased.ends_last x) here.state_is,
            subst (λ (x : CertifyState). phased.AllowsLast x verdict) (sym here.state_is)
                (allows here.first here.texts here.lines here.keeps),
          ))
          (λ state here.
          let first = here.first in
          let texts = here.texts in
          let lines = here.lines in
          subst (λ (x : CertifyState). Closes (with_outcomes phased (verdict ∷ [])) (shown_on phased shown_nothing)
          (On x (verdict ∷ [])) ending out out') (sym here.state_is)
          (Closes-given phased shown_nothing (Written part.header first texts lines) (Some verdict) ending out out' refl
          (ends first texts lines here.keeps) (prints first texts lines here.number) tt))

    pub written-end_failed : {E : Type 0} (error : E) → verdicts_of new ≡ verdicts_of old
        → ClosesPhased phased (InWritten Accepts n part) shown_nothing (made_by old) (made_by new) (Err error) out out'
    written-end_failed error same =
        ClosesPhased-given phased shown_nothing (made_by old) (made_by new) out out' (Err error)
        (InWritten Accepts n part) None
        (subst (λ (made : Option (List Verdict)). Grows (made_by old) made []) (ap Some (sym same))
        (Grows-nil (made_by old))) (λ state here. tt) tt

  -- the end of the input
  module _ (job : CertifyJob J) (out out' : List ℕ) where
    -- in a header
    pub header-ends : {E : Type 0} (reader : Stage) (made : Option (List Verdict)) → job.work ≡ works.Header reader
        → out' ≡ out ++ header_line (record { line = job.line; cause = missing reader })
        → ClosesPhased {E = E} phased (stands job) shown_nothing made made (Ok statuses.Header) out out'
    header-ends reader made is prints =
        ClosesPhased-given phased shown_nothing made made out out' (Ok statuses.Header) (stands job) None
        (Grows-nil made) (λ s here. tt)
        (λ s here. subst (λ (x : CertifyState). Closes (with_outcomes phased []) (shown_on phased shown_nothing)
        (On x []) statuses.Header out out')
        (sym (subst (λ (w : Work J). IsWork Gathers Accepts job.line w s) is here.work))
        (Closes-given phased shown_nothing (Heading job.line reader) None statuses.Header out out' refl refl prints tt))

    -- in a trace, without a history
    pub trace-ends : {E : Type 0} (part : TracePart J) (old new : Verdicts) → job.work ≡ works.Trace part
        → verdicts_of new ≡ verdicts_of old ++ Refused Incomplete ∷ [] → out' ≡ out ++ fault_line job.line Incomplete
        → ClosesPhased {E = E} phased (stands job) shown_nothing (made_by old) (made_by new) (Ok statuses.NotCertified) out
        out'
    trace-ends part old new is added prints =
        ClosesPhased-given phased shown_nothing (made_by old) (made_by new) out out' (Ok statuses.NotCertified) (stands job)
        (Some (Refused Incomplete)) (ap Some added)
        (λ s here.
        let at = trace-at_work job.line job.work part s is here.work in (
          ap (λ (x : CertifyState). phased.ends_last x) at.state_is,
          subst (λ (x : CertifyState). phased.AllowsLast x (Refused Incomplete)) (sym at.state_is) refl,
        ))
        (λ s here.
        let at = trace-at_work job.line job.work part s is here.work in
        subst (λ (x : CertifyState). Closes (with_outcomes phased (Refused Incomplete ∷ []))
        (shown_on phased shown_nothing) (On x (Refused Incomplete ∷ [])) statuses.NotCertified out out') (sym at.state_is)
        (Closes-given phased shown_nothing (Trace part.header at.first at.texts) (Some (Refused Incomplete))
        statuses.NotCertified out out' refl refl
        (prints ∙ ap (λ (k : ℕ). out ++ fault_line k Incomplete) at.number) tt))

    -- nothing is said where no memory is left
    pub end-failed : {E : Type 0} (old new : Verdicts) (error : E) → verdicts_of new ≡ verdicts_of old
        → ClosesPhased phased (stands job) shown_nothing (made_by old) (made_by new) (Err error) out out'
    end-failed old new error same =
        ClosesPhased-given phased shown_nothing (made_by old) (made_by new) out out' (Err error) (stands job) None
        (subst (λ (made : Option (List Verdict)). Grows (made_by old) made []) (ap Some (sym same))
        (Grows-nil (made_by old))) (λ s here. tt) tt

    -- in a history
    pub history-ends : {E : Type 0} (part : WrittenPart J) (made made' : Option (List Verdict))
        (result : Result Status E) → job.work ≡ works.Written part
        → ClosesPhased phased (InWritten Accepts job.line part) shown_nothing made made' result out out'
        → ClosesPhased phased (stands job) shown_nothing made made' result out out'
    history-ends part made made' result is closed =
        ClosesPhased-also phased shown_nothing made made' out out' result (InWritten Accepts job.line part) (stands job)
        (λ s here. written-at_work job.line job.work part s is here.work) closed

    -- a command that stopped doesn't come to its end
    pub stopped-ends : {E : Type 0} (made : Option (List Verdict)) (ending : Status) → job.work ≡ works.Stopped
        → ClosesPhased {E = E} phased (stands job) shown_nothing made made (Ok ending) out out'
    stopped-ends made ending is =
        ClosesPhased-given phased shown_nothing made made out out' (Ok ending) (stands job) None (Grows-nil made)
        (λ s here. tt)
        (λ s here. absurd (subst (λ (w : Work J). IsWork Gathers Accepts job.line w s) is here.work))
