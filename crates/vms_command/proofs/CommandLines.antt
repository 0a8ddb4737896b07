-- How a command takes a line.
use Rattle.std.proofs.Common.{◌≡◌, ◌≢◌, ℕ, suc, ◌+◌, ◌<◌, ◌≤◌, nat_lt, true, false, List, [], ◌∷◌, ◌++◌, Option, Some}
use Rattle.std.proofs.Common.{None, refl, sym, ap, ap₂, subst, ◌∙◌, arith, IfOk, length}
use Rattle.std.specs.Prelude.{OnOk, Result, Ok, Err}
use Rattle.std.proofs.lemmas.Bool.Decides.{nat_tests}
use Rattle.vms_base.specs.declared.headers.Header.{Header}
use Rattle.vms_header.specs.declared.causes.HeaderCause.{HeaderCause}
use Rattle.vms_header.specs.Common.{Draft, header_of, Stage, HeadStep, head_line, missing, Goes, Ends}
use Rattle.vms_stream.specs.declared.statuses.Status.{Status}
use Rattle.vms_stream.specs.declared.statuses.Status.TheVariants.{TooLong}
use Rattle.vms_stream.specs.declared.statuses.Status.TheVariants as statuses
use Rattle.vms_stream.specs.Common.{Closes, TakesLines, PhasedBehavior, with_outcomes, On, ClosesPhased, MayGive}
use Rattle.vms_stream.specs.Common.{StandsOn, TakesPhased, at_most_one, shown_on, Text, Waiting, unless_stopped}
use Rattle.vms_stream.specs.Common.{waiting}
use Rattle.vms_stream.proofs.Common.{Closes-given, ClosesPhased-also, ClosesPhased-given, TakesLines-given}
use Rattle.vms_stream.proofs.Common.{TakesLines-given_exceeding, TakesLines-given_refused, TakesPhased-also}
use Rattle.vms_stream.proofs.Common.{TakesPhased-given, Grows-nil}
use Rattle.vms_command.specs.declared.body_jobs.BodyJob.{BodyJob}
use Rattle.vms_command.specs.declared.trace_jobs.Work.{Work}
use Rattle.vms_command.specs.declared.trace_jobs.Work.TheVariants as works
use Rattle.vms_command.specs.declared.trace_jobs.TraceJob.{TraceJob}
use Rattle.vms_command.specs.Common.{ClosesBody, EndsAfter, SomeEnd, shown_given, TraceCommand, CommandState}
use Rattle.vms_command.specs.Common.{after_head, following, halted_at, halts_at, refuses, ends_phase_at, Heading, Body}
use Rattle.vms_command.specs.Common.{most_lines, LinesAbove, nothing_above, header_line, InBody, InSomeBody, IsHead}
use Rattle.vms_command.specs.Common.{IsWork, StandsAt, StepsToWork, TakesHeadLine}
use Rattle.vms_command.proofs.BodyLines.{within_limit}

-- a fault alone stops a header
only_refuses : (read : Result HeadStep HeaderCause) (status : Status) → Some status ≡ refuses read
    → status ≡ statuses.Header
only_refuses (Ok read) status is = absurd cc
only_refuses (Err cause) status is = cc

unless_stopped-none : (halt : Option Status) → unless_stopped halt false ≡ false
unless_stopped-none None = refl
unless_stopped-none (Some halt) = refl

beyond_limit : (n : ℕ) (halt : Option Status) → most_lines < n → halted_at n halt ≡ Some TooLong
beyond_limit n halt beyond = let test : nat_lt most_lines n ≡ true = grind (arith, nat_tests) in rw test refl

module _ {K O B : Type 0} (command : TraceCommand K O)
    (stands : B → Header → ℕ → LinesAbove → K → List (Text O) → Type 0) where
  abbrev phased : PhasedBehavior (Waiting (CommandState K) O) O
  phased = waiting (following command)

  -- no text waits
  abbrev quiet : CommandState K → Waiting (CommandState K) O
  quiet state = record { state = state; waits = [] }

  pub InBody-at_work : (n : ℕ) (work : Work B) (job : BodyJob B) (now : Waiting (CommandState K) O)
      → work ≡ works.Body job
      → IsWork stands n work now → InBody stands n job now
  InBody-at_work n work job now is here = subst (λ (w : Work B). IsWork stands n w now) is here

  -- the body in which a command stands
  pub InSomeBody-at_work : (job : TraceJob B) (body : BodyJob B) (now : Waiting (CommandState K) O)
      → job.work ≡ works.Body body → StandsAt stands job now → InSomeBody stands body now
  InSomeBody-at_work job body now is here = record {
    number = job.line;
    most = here.most;
    inside = InBody-at_work job.line job.work body now is here.work;
  }

  -- a line past the limit on lines
  pub line-beyond : {E : Type 0} (job : TraceJob B) (made : Option (List O)) (line out : List ℕ)
      (next : Waiting (CommandState K) O → Type 0) → most_lines < job.line
      → TakesPhased {E = E} phased (StandsAt stands job) next made made line (Ok (Some TooLong)) out out
  line-beyond job made line out next beyond =
      TakesPhased-given phased made made line out out (Ok (Some TooLong)) (StandsAt stands job) next None
      (Grows-nil made) (λ now here. tt) (λ now here. by job.work now here.work)
    where
      at : (now : Waiting (CommandState K) O) → halts_at now.state line ≡ Some TooLong
          → TakesLines (with_outcomes phased []) (StandsOn next) (On now []) (line ∷ []) (Some TooLong) out out
      at now halts = TakesLines-given_exceeding phased next now line out out None
          (ap (λ (h : Option Status). unless_stopped h (ends_phase_at command now.state line)) halts) halts refl

      by : (work : Work B) (now : Waiting (CommandState K) O) → IsWork stands job.line work now
          → TakesLines (with_outcomes phased []) (StandsOn next) (On now []) (line ∷ []) (Some TooLong) out out
      by (works.Header reader) now is = at now
          (ap (λ (w : Waiting (CommandState K) O). halts_at w.state line) is ∙ beyond_limit job.line _ beyond)
      by (works.Body body) now here = at now
          (ap (λ (w : Waiting (CommandState K) O). halts_at w.state line) here.now_is
          ∙ beyond_limit job.line _ beyond)
      by works.Stopped now here = absurd here

  module _ (before after : TraceJob B) (line out out' : List ℕ) (next : after.line ≡ before.line + 1)
      (within : before.line ≤ most_lines) where
    -- after a line of a body
    pub body-takes : {E : Type 0} (job job' : BodyJob B) (made made' : Option (List O))
        (result : Result (Option Status) E) → before.work ≡ works.Body job → after.work ≡ works.Body job'
        → TakesPhased phased (InBody stands before.line job) (InBody stands (suc before.line) job') made made' line
        result out out'
        → TakesPhased phased (StandsAt stands before) (StandsAt stands after) made made' line result out out'
    body-takes job job' made made' result is is' took =
        TakesPhased-also phased made made' line out out' result (InBody stands before.line job)
        (InBody stands (suc before.line) job') (StandsAt stands before) (StandsAt stands after)
        (λ now here. InBody-at_work before.line before.work job now is here.work)
        (λ now here. record {
          least = omega (arith, next);
          most = omega (arith, next, within);
          work = subst (λ (w : Work B). IsWork stands after.line w now) (sym is')
              (subst (λ (k : ℕ). InBody stands k job' now) (omega (arith, next)) here);
        })
        took

    head_work : (stage : Stage) (work : Work B) → IsHead stage work
        → IsWork stands after.line work (quiet (Heading (suc before.line) stage))
    head_work stage (works.Header reader) is =
        ap₂ (λ (k : ℕ) (s : Stage). quiet (Heading k s)) (omega (arith, next)) (sym is)
    head_work stage (works.Body job) is = absurd is
    head_work stage works.Stopped is = absurd is

    begun_work : (draft : Draft) (work : Work B) → StepsToWork command stands (Ok (Ends draft)) work
        → IsWork stands after.line work
        (quiet (Body (suc before.line) (header_of draft) nothing_above (command.begins (header_of draft))))
    begun_work draft (works.Body job) here = record {
      above = nothing_above;
      kept = command.begins (header_of draft);
      waits = [];
      here = here.1 after.line (omega (arith, next));
      fewer = omega (arith, next);
      now_is = ap₂ (λ (k : ℕ) (h : Header). quiet (Body k h nothing_above (command.begins (header_of draft))))
          (omega (arith, next)) (sym here.0);
    }
    begun_work draft (works.Header reader) here = absurd here
    begun_work draft works.Stopped here = absurd here

    step_work : (stage : Stage) (read : Result HeadStep HeaderCause) → StepsToWork command stands read after.work
        → IsWork stands after.line after.work (quiet (after_head command before.line stage read))
    step_work stage (Ok (Goes stage')) leads = head_work stage' after.work leads
    step_work stage (Ok (Ends draft)) leads = begun_work draft after.work leads
    step_work stage (Err cause) leads = absurd leads

    head_line_taken : (halt : Option Status) (stage : Stage)
        → TakesHeadLine command stands before.line (head_line stage line) halt out out' after.work
        → TakesLines (with_outcomes phased []) (StandsOn (StandsAt stands after))
        (On (quiet (Heading before.line stage)) []) (line ∷ []) halt out out'
    head_line_taken None stage goes =
        TakesLines-given phased (StandsAt stands after) (quiet (Heading before.line stage)) line out out' None
        (unless_stopped-none (halts_at {K = K} (Heading before.line stage) line))
        (within_limit before.line _ within ∙ sym goes.halt_is) goes.printed
        (record {
          least = omega (arith, next);
          most = omega (arith, next, within);
          work = step_work stage (head_line stage line) (goes.leads refl);
        })
    head_line_taken (Some statuses.Header) stage goes =
        TakesLines-given_refused phased (StandsAt stands after) (quiet (Heading before.line stage)) line out out' None
        (unless_stopped-none (halts_at {K = K} (Heading before.line stage) line))
        (within_limit before.line _ within ∙ sym goes.halt_is) goes.printed
    head_line_taken (Some _) stage goes = let only = only_refuses _ _ goes.halt_is in absurd cc

    from_head : (halt : Option Status) (work : Work B) → ((job : BodyJob B) → work ≢ works.Body job)
        → ((stage : Stage) → IsHead stage work → TakesHeadLine command stands before.line (head_line stage line)
        halt out out' after.work)
        → (now : Waiting (CommandState K) O) → IsWork stands before.line work now
        → TakesLines (with_outcomes phased []) (StandsOn (StandsAt stands after)) (On now []) (line ∷ []) halt out out'
    from_head halt (works.Header reader) none goes now is =
        subst (λ (at : Waiting (CommandState K) O). TakesLines (with_outcomes phased [])
        (StandsOn (StandsAt stands after)) (On at []) (line ∷ []) halt out out') (sym is)
        (head_line_taken halt reader (goes reader refl))
    from_head halt (works.Body job) none goes now here = absurd (none job refl)
    from_head halt works.Stopped none goes now here = absurd here

  -- after a line of a header
  pub head-takes : {E : Type 0} (before after : TraceJob B) (line out out' : List ℕ) → before.line ≤ most_lines
      → (made : Option (List O)) (result : Result (Option Status) E)
      → ((job : BodyJob B) → before.work ≢ works.Body job)
      → IfOk result (λ halt. (stage : Stage) → IsHead stage before.work
      → TakesHeadLine command stands before.line (head_line stage line) halt out out' after.work)
      → OnOk result (after.line ≡ before.line + 1)
      → TakesPhased phased (StandsAt stands before) (StandsAt stands after) made made line result out out'
  head-takes {E} before after line out out' within made result none goes next =
      TakesPhased-given phased made made line out out' result (StandsAt stands before) (StandsAt stands after) None
      (Grows-nil made) (λ now here. tt) (by result goes next)
    where
      by : (r : Result (Option Status) E)
          → IfOk r (λ halt. (stage : Stage) → IsHead stage before.work
          → TakesHeadLine command stands before.line (head_line stage line) halt out out' after.work)
          → OnOk r (after.line ≡ before.line + 1)
          → IfOk r (λ halt. (now : Waiting (CommandState K) O) → StandsAt stands before now
          → TakesLines (with_outcomes phased []) (StandsOn (StandsAt stands after)) (On now []) (line ∷ []) halt
          out out')
      by (Ok halt) goes next =
          λ now here. from_head before after line out out' next within halt before.work none goes now here.work
      by (Err error) goes next = tt

  -- the end
  module _ (shows : Header → LinesAbove → K → Option O → Type 0) where
    abbrev shown : Waiting (CommandState K) O → Option O → Type 0
    shown = shown_given shows

    -- of a header, where it is cut off
    pub header-ends : {E : Type 0} (job : TraceJob B) (reader : Stage) (made : Option (List O)) (out out' : List ℕ)
        → job.work ≡ works.Header reader
        → out' ≡ out ++ header_line (record { line = job.line; cause = missing reader })
        → ClosesPhased {E = E} phased (StandsAt stands job) shown made made (Ok statuses.Header) out out'
    header-ends job reader made out out' is prints =
        ClosesPhased-given phased shown made made out out' (Ok statuses.Header) (StandsAt stands job) None
        (Grows-nil made) (λ now here. tt)
        (λ now here. subst (λ (at : Waiting (CommandState K) O). Closes (with_outcomes phased [])
        (shown_on phased shown) (On at []) statuses.Header out out')
        (sym (subst (λ (w : Work B). IsWork stands job.line w now) is here.work))
        (Closes-given phased shown (quiet (Heading job.line reader)) None statuses.Header out out' refl refl prints tt))

    -- nothing is said where no memory is left for what is printed there
    pub end-failed : {E : Type 0} (job : TraceJob B) (made : Option (List O)) (error : E) (out out' : List ℕ)
        → ClosesPhased phased (StandsAt stands job) shown made made (Err error) out out'
    end-failed job made error out out' =
        ClosesPhased-given phased shown made made out out' (Err error) (StandsAt stands job) None (Grows-nil made)
        (λ now here. tt) tt

    pub body-ends : {E : Type 0} (job : TraceJob B) (body : BodyJob B) (made made' : Option (List O))
        (result : Result Status E) (out out' : List ℕ) → job.work ≡ works.Body body
        → ClosesPhased phased (InSomeBody stands body) shown made made' result out out'
        → ClosesPhased phased (StandsAt stands job) shown made made' result out out'
    body-ends job body made made' result out out' is closed =
        ClosesPhased-also phased shown made made' out out' result (InSomeBody stands body) (StandsAt stands job)
        (λ now here. InSomeBody-at_work job body now is here) closed

    -- a command that stopped doesn't come to its end
    pub stopped-ends : {E : Type 0} (job : TraceJob B) (made : Option (List O)) (ending : Status) (out : List ℕ)
        → job.work ≡ works.Stopped
        → ClosesPhased {E = E} phased (StandsAt stands job) shown made made (Ok ending) out out
    stopped-ends job made ending out is =
        ClosesPhased-given phased shown made made out out (Ok ending) (StandsAt stands job) None (Grows-nil made)
        (λ now here. tt)
        (λ now here. absurd (subst (λ (w : Work B). IsWork stands job.line w now) is here.work))

    -- of a body
    module _ (job : BodyJob B) (made made' : Option (List O)) (out out' : List ℕ) where
      pub body-closes : {E : Type 0} (result : Result Status E)
          → ClosesBody command (stands job.body) shows made made' job.header job.tally.accepted job.tally.refused
          result out out'
          → ClosesPhased phased (InSomeBody stands job) shown made made' result out out'
      body-closes {E} result closed =
          ClosesPhased-given phased shown made made' out out' result (InSomeBody stands job) closed.given closed.grows
          (λ now here.
          let stood = here.inside.here in
          subst (λ (at : Waiting (CommandState K) O). MayGive (phased.ends_last at) (phased.AllowsLast at) closed.given)
          (sym here.inside.now_is)
          (closed.may_give here.number here.inside.above here.inside.kept here.inside.waits stood.after
          stood.tells.accepted stood.tells.refused))
          (by result closed.goes)
        where
          by : (r : Result Status E)
              → IfOk r (λ ending. (n : ℕ) (above : LinesAbove) (kept : K) (waits : List (Text O))
              → stands job.body job.header n above kept waits → job.tally.accepted ≡ length above.lines
              → job.tally.refused ≡ above.refused →
              EndsAfter command shows job.header above kept waits closed.given ending out out')
              → IfOk r (λ ending. (now : Waiting (CommandState K) O) → InSomeBody stands job now →
              Closes (with_outcomes phased (at_most_one closed.given)) (shown_on phased shown)
              (On now (at_most_one closed.given)) ending out out')
          by (Ok ending) goes = λ now here.
              let stood = here.inside.here in
              let last = goes here.number here.inside.above here.inside.kept here.inside.waits stood.after
              stood.tells.accepted stood.tells.refused in
              subst (λ (at : Waiting (CommandState K) O). Closes (with_outcomes phased (at_most_one closed.given))
              (shown_on phased shown) (On at (at_most_one closed.given)) ending out out') (sym here.inside.now_is)
              (Closes-given phased shown
              (record {
                state = Body here.number job.header here.inside.above here.inside.kept;
                waits = here.inside.waits;
              })
              closed.given ending out out' last.ended last.ends last.prints last.shown)
          by (Err error) goes = tt

  -- the body stands after some lines, with the numbers of the job
  pub SomeEnd-stood : (job : BodyJob B) (now : Waiting (CommandState K) O) → InSomeBody stands job now
      → SomeEnd (stands job.body) job.header job.tally.accepted job.tally.refused
  SomeEnd-stood job now here = record {
    number = here.number;
    most = here.most;
    above = here.inside.above;
    kept = here.inside.kept;
    waits = here.inside.waits;
    after = here.inside.here.after;
    accepts = here.inside.here.tells.accepted;
    refuses = here.inside.here.tells.refused;
  }
