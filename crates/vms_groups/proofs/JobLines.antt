-- How the command takes a line, and comes to the end of its input.
use Rattle.std.proofs.Common.{◌≡◌, ◌≢◌, ℕ, suc, ◌+◌, ◌<◌, ◌≤◌, nat_lt, true, false, List, [], ◌∷◌, ◌++◌, Option, Some}
use Rattle.std.proofs.Common.{None, refl, sym, ap, ap₂, subst, ◌∙◌, arith, IfOk, append-nil}
use Rattle.std.specs.Prelude.{OnOk, Result, Ok, Err}
use Rattle.std.proofs.lemmas.Bool.Decides.{nat_tests}
use Rattle.vms_base.specs.declared.failures.Memory.{Memory}
use Rattle.vms_command.specs.Common.{halted_at, most_lines}
use Rattle.vms_group_lines.specs.declared.causes.GroupCause.{GroupCause}
use Rattle.vms_group_lines.specs.declared.headers.GroupHeader.{GroupHeader}
use Rattle.vms_group_lines.specs.declared.stages.GroupStage.{GroupStage}
use Rattle.vms_group_lines.specs.declared.stages.HeadStep.{HeadStep}
use Rattle.vms_group_lines.specs.declared.stages.HeadStep.TheVariants.{Ends, Goes}
use Rattle.vms_group_lines.specs.Common.{group_head_line, group_missing}
use Rattle.vms_stream.specs.declared.statuses.Status.{Status}
use Rattle.vms_stream.specs.declared.statuses.Status.TheVariants.{TooLong}
use Rattle.vms_stream.specs.declared.statuses.Status.TheVariants as statuses
use Rattle.vms_stream.specs.Common.{Closes, TakesLines, PhasedBehavior, with_outcomes, On, ClosesPhased, StandsOn}
use Rattle.vms_stream.specs.Common.{TakesPhased, shown_on, Waiting, unless_stopped, waiting}
use Rattle.vms_stream.proofs.Common.{Closes-given, ClosesPhased-also, ClosesPhased-given, TakesLines-given}
use Rattle.vms_stream.proofs.Common.{TakesLines-given_exceeding, TakesLines-given_refused, TakesPhased-also}
use Rattle.vms_stream.proofs.Common.{TakesPhased-given, Grows-nil}
use Rattle.vms_groups.specs.declared.bodies.GroupBody.{GroupBody}
use Rattle.vms_groups.specs.declared.jobs.GroupsJob.{GroupsJob}
use Rattle.vms_groups.specs.declared.jobs.Work.{Work}
use Rattle.vms_groups.specs.declared.jobs.Work.TheVariants as works
use Rattle.vms_groups.specs.GroupTexts.{GroupsState, after_head, ends_at_line, first_kept, group_header_line, halts_at}
use Rattle.vms_groups.specs.GroupTexts.{refuses_head}
use Rattle.vms_groups.specs.Common.{groups_texts, shown_by_groups, PastGroupPhase}
use Rattle.vms_groups.specs.GroupTexts.GroupsState.{Heading, Body}
use Rattle.vms_groups.specs.GroupStates.{BodyStands, InBody, InSomeBody, IsHead, IsWork, StandsAt, StepsToWork}
use Rattle.vms_groups.specs.GroupStates.{TakesHeadLine}
use Rattle.vms_groups.proofs.BodyLines.{within_limit}

abbrev phased : PhasedBehavior (Waiting GroupsState PastGroupPhase) PastGroupPhase
phased = waiting groups_texts

-- no text waits
abbrev quiet : GroupsState → Waiting GroupsState PastGroupPhase
quiet state = record { state = state; waits = [] }

-- a fault alone stops a header
only_refuses : (read : Result HeadStep GroupCause) (status : Status) → Some status ≡ refuses_head read
    → status ≡ statuses.Header
only_refuses (Ok step) status is = absurd cc
only_refuses (Err cause) status is = cc

unless_stopped-none : (halt : Option Status) → unless_stopped halt false ≡ false
unless_stopped-none None = refl
unless_stopped-none (Some halt) = refl

beyond_limit : (n : ℕ) (halt : Option Status) → most_lines < n → halted_at n halt ≡ Some TooLong
beyond_limit n halt beyond = let test : nat_lt most_lines n ≡ true = grind (arith, nat_tests) in rw test refl

pub InBody-at_work : (n : ℕ) (work : Work) (body : GroupBody) (now : Waiting GroupsState PastGroupPhase)
    → work ≡ works.Body body → IsWork n work now → InBody n body now
InBody-at_work n work body now is here = subst (λ (w : Work). IsWork n w now) is here

-- how a header takes a line, by what the line makes of it
module _ (n : ℕ) (read : Result HeadStep GroupCause) where
  -- the header goes on
  pub head-goes : (stage : GroupStage) (out : List ℕ) → read ≡ Ok (Goes stage)
      → TakesHeadLine n read None out out (works.Header stage)
  head-goes stage out is =
      subst (λ (t : Result HeadStep GroupCause). TakesHeadLine n t None out out (works.Header stage)) (sym is)
      (record { halt_is = refl; printed = sym (append-nil out); leads = λ none. refl })

  -- the body begins
  pub head-begins : (header : GroupHeader) (body : GroupBody) (out : List ℕ) → read ≡ Ok (Ends header)
      → body.header ≡ header → BodyStands (first_kept header) [] body
      → TakesHeadLine n read None out out (works.Body body)
  head-begins header body out is same stands =
      subst (λ (t : Result HeadStep GroupCause). TakesHeadLine n t None out out (works.Body body)) (sym is)
      (record { halt_is = refl; printed = sym (append-nil out); leads = λ none. (same, stands) })

  -- the line is at fault
  pub head-refused : (cause : GroupCause) (out out' : List ℕ) → read ≡ Err cause
      → out' ≡ out ++ group_header_line (record { line = n; cause = cause })
      → TakesHeadLine n read (Some statuses.Header) out out' works.Stopped
  head-refused cause out out' is printed =
      subst (λ (t : Result HeadStep GroupCause). TakesHeadLine n t (Some statuses.Header) out out' works.Stopped)
      (sym is) (record { halt_is = refl; printed = printed; leads = λ none. absurd cc })

module _ {E : Type 0} where
  -- the body in which the command stands
  pub InSomeBody-at_work : (job : GroupsJob E) (body : GroupBody) (now : Waiting GroupsState PastGroupPhase)
      → job.work ≡ works.Body body → StandsAt job now → InSomeBody body now
  InSomeBody-at_work job body now is here =
      record { number = job.line; inside = InBody-at_work job.line job.work body now is here.work }

  -- a line past the limit on lines
  pub line-beyond : (job : GroupsJob E) (made : Option (List PastGroupPhase)) (line out : List ℕ)
      (next : Waiting GroupsState PastGroupPhase → Type 0) → most_lines < job.line
      → TakesPhased {E = Memory} phased (StandsAt job) next made made line (Ok (Some TooLong)) out out
  line-beyond job made line out next beyond =
      TakesPhased-given phased made made line out out (Ok (Some TooLong)) (StandsAt job) next None
      (Grows-nil made) (λ now here. tt) (λ now here. by job.work now here.work)
    where
      at : (now : Waiting GroupsState PastGroupPhase) → halts_at now.state line ≡ Some TooLong
          → TakesLines (with_outcomes phased []) (StandsOn next) (On now []) (line ∷ []) (Some TooLong) out out
      at now halts = TakesLines-given_exceeding phased next now line out out None
          (ap (λ (h : Option Status). unless_stopped h (ends_at_line now.state line)) halts) halts refl

      by : (work : Work) (now : Waiting GroupsState PastGroupPhase) → IsWork job.line work now
          → TakesLines (with_outcomes phased []) (StandsOn next) (On now []) (line ∷ []) (Some TooLong) out out
      by (works.Header reader) now is = at now
          (ap (λ (w : Waiting GroupsState PastGroupPhase). halts_at w.state line) is ∙ beyond_limit job.line _ beyond)
      by (works.Body body) now here = at now
          (ap (λ (w : Waiting GroupsState PastGroupPhase). halts_at w.state line) here.now_is
          ∙ beyond_limit job.line _ beyond)
      by works.Stopped now here = absurd here

  module _ (before after : GroupsJob E) (line out out' : List ℕ) (next : after.line ≡ before.line + 1)
      (within : before.line ≤ most_lines) where
    -- after a line of a body
    pub body-takes : (body body' : GroupBody) (made made' : Option (List PastGroupPhase))
        (result : Result (Option Status) Memory) → before.work ≡ works.Body body → after.work ≡ works.Body body'
        → TakesPhased phased (InBody before.line body) (InBody (suc before.line) body') made made' line result out out'
        → TakesPhased phased (StandsAt before) (StandsAt after) made made' line result out out'
    body-takes body body' made made' result is is' took =
        TakesPhased-also phased made made' line out out' result (InBody before.line body)
        (InBody (suc before.line) body') (StandsAt before) (StandsAt after)
        (λ now here. InBody-at_work before.line before.work body now is here.work)
        (λ now here. record {
          least = omega (arith, next);
          most = omega (arith, next, within);
          work = subst (λ (w : Work). IsWork after.line w now) (sym is')
              (subst (λ (k : ℕ). InBody k body' now) (omega (arith, next)) here);
        })
        took

    head_work : (stage : GroupStage) (work : Work) → IsHead stage work
        → IsWork after.line work (quiet (Heading (suc before.line) stage))
    head_work stage (works.Header reader) is =
        ap₂ (λ (k : ℕ) (s : GroupStage). quiet (Heading k s)) (omega (arith, next)) (sym is)
    head_work stage (works.Body body) is = absurd is
    head_work stage works.Stopped is = absurd is

    begun_work : (header : GroupHeader) (work : Work) → StepsToWork (Ok (Ends header)) work
        → IsWork after.line work (quiet (Body (suc before.line) header (first_kept header)))
    begun_work header (works.Body body) here = record {
      kept = first_kept header;
      texts = [];
      here = here.1;
      fewer = omega (arith, next);
      now_is = ap₂ (λ (k : ℕ) (h : GroupHeader). quiet (Body k h (first_kept header))) (omega (arith, next))
          (sym here.0);
    }
    begun_work header (works.Header reader) here = absurd here
    begun_work header works.Stopped here = absurd here

    step_work : (stage : GroupStage) (read : Result HeadStep GroupCause) → StepsToWork read after.work
        → IsWork after.line after.work (quiet (after_head before.line stage read))
    step_work stage (Ok (Goes stage')) leads = head_work stage' after.work leads
    step_work stage (Ok (Ends header)) leads = begun_work header after.work leads
    step_work stage (Err cause) leads = absurd leads

    head_line_taken : (halt : Option Status) (stage : GroupStage)
        → TakesHeadLine before.line (group_head_line stage line) halt out out' after.work
        → TakesLines (with_outcomes phased []) (StandsOn (StandsAt after))
        (On (quiet (Heading before.line stage)) []) (line ∷ []) halt out out'
    head_line_taken None stage goes =
        TakesLines-given phased (StandsAt after) (quiet (Heading before.line stage)) line out out' None
        (unless_stopped-none (halts_at (Heading before.line stage) line))
        (within_limit before.line _ within ∙ sym goes.halt_is) goes.printed
        (record {
          least = omega (arith, next);
          most = omega (arith, next, within);
          work = step_work stage (group_head_line stage line) (goes.leads refl);
        })
    head_line_taken (Some statuses.Header) stage goes =
        TakesLines-given_refused phased (StandsAt after) (quiet (Heading before.line stage)) line out out' None
        (unless_stopped-none (halts_at (Heading before.line stage) line))
        (within_limit before.line _ within ∙ sym goes.halt_is) goes.printed
    head_line_taken (Some _) stage goes = let only = only_refuses _ _ goes.halt_is in absurd cc

    from_head : (halt : Option Status) (work : Work) → ((body : GroupBody) → work ≢ works.Body body)
        → ((stage : GroupStage) → IsHead stage work → TakesHeadLine before.line (group_head_line stage line)
        halt out out' after.work)
        → (now : Waiting GroupsState PastGroupPhase) → IsWork before.line work now
        → TakesLines (with_outcomes phased []) (StandsOn (StandsAt after)) (On now []) (line ∷ []) halt out out'
    from_head halt (works.Header reader) none goes now is =
        subst (λ (at : Waiting GroupsState PastGroupPhase). TakesLines (with_outcomes phased [])
        (StandsOn (StandsAt after)) (On at []) (line ∷ []) halt out out') (sym is)
        (head_line_taken halt reader (goes reader refl))
    from_head halt (works.Body body) none goes now here = absurd (none body refl)
    from_head halt works.Stopped none goes now here = absurd here

  -- after a line of a header
  pub head-takes : (before after : GroupsJob E) (line out out' : List ℕ) → before.line ≤ most_lines
      → (made : Option (List PastGroupPhase)) (result : Result (Option Status) Memory)
      → ((body : GroupBody) → before.work ≢ works.Body body)
      → IfOk result (λ halt. (stage : GroupStage) → IsHead stage before.work
      → TakesHeadLine before.line (group_head_line stage line) halt out out' after.work)
      → OnOk result (after.line ≡ before.line + 1)
      → TakesPhased phased (StandsAt before) (StandsAt after) made made line result out out'
  head-takes before after line out out' within made result none goes next =
      TakesPhased-given phased made made line out out' result (StandsAt before) (StandsAt after) None
      (Grows-nil made) (λ now here. tt) (by result goes next)
    where
      by : (r : Result (Option Status) Memory)
          → IfOk r (λ halt. (stage : GroupStage) → IsHead stage before.work
          → TakesHeadLine before.line (group_head_line stage line) halt out out' after.work)
          → OnOk r (after.line ≡ before.line + 1)
          → IfOk r (λ halt. (now : Waiting GroupsState PastGroupPhase) → StandsAt before now
          → TakesLines (with_outcomes phased []) (StandsOn (StandsAt after)) (On now []) (line ∷ []) halt out out')
      by (Ok halt) goes next =
          λ now here. from_head before after line out out' next within halt before.work none goes now here.work
      by (Err error) goes next = tt

  -- the end of a header, where it is cut off
  pub header-ends : (job : GroupsJob E) (reader : GroupStage) (made : Option (List PastGroupPhase)) (out out' : List ℕ)
      → job.work ≡ works.Header reader
      → out' ≡ out ++ group_header_line (record { line = job.line; cause = group_missing reader })
      → ClosesPhased {E = Memory} phased (StandsAt job) shown_by_groups made made (Ok statuses.Header) out out'
  header-ends job reader made out out' is prints =
      ClosesPhased-given phased shown_by_groups made made out out' (Ok statuses.Header) (StandsAt job) None
      (Grows-nil made) (λ now here. tt)
      (λ now here. subst (λ (at : Waiting GroupsState PastGroupPhase). Closes (with_outcomes phased [])
      (shown_on phased shown_by_groups) (On at []) statuses.Header out out')
      (sym (subst (λ (w : Work). IsWork job.line w now) is here.work))
      (Closes-given phased shown_by_groups (quiet (Heading job.line reader)) None statuses.Header out out' refl refl
      prints tt))

  -- nothing is said where no memory is left for what is printed there
  pub end-failed : (job : GroupsJob E) (made : Option (List PastGroupPhase)) (error : Memory) (out out' : List ℕ)
      → ClosesPhased phased (StandsAt job) shown_by_groups made made (Err error) out out'
  end-failed job made error out out' =
      ClosesPhased-given phased shown_by_groups made made out out' (Err error) (StandsAt job) None (Grows-nil made)
      (λ now here. tt) tt

  pub body-ends : (job : GroupsJob E) (body : GroupBody) (made made' : Option (List PastGroupPhase))
      (result : Result Status Memory) (out out' : List ℕ) → job.work ≡ works.Body body
      → ClosesPhased phased (InSomeBody body) shown_by_groups made made' result out out'
      → ClosesPhased phased (StandsAt job) shown_by_groups made made' result out out'
  body-ends job body made made' result out out' is closed =
      ClosesPhased-also phased shown_by_groups made made' out out' result (InSomeBody body) (StandsAt job)
      (λ now here. InSomeBody-at_work job body now is here) closed

  -- a command that stopped doesn't come to its end
  pub stopped-ends : (job : GroupsJob E) (made : Option (List PastGroupPhase)) (ending : Status) (out : List ℕ)
      → job.work ≡ works.Stopped
      → ClosesPhased {E = Memory} phased (StandsAt job) shown_by_groups made made (Ok ending) out out
  stopped-ends job made ending out is =
      ClosesPhased-given phased shown_by_groups made made out out (Ok ending) (StandsAt job) None (Grows-nil made)
      (λ now here. tt)
      (λ now here. absurd (subst (λ (w : Work). IsWork job.line w now) is here.work))
