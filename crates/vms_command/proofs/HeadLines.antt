-- How a command takes a line of a header, by what the line makes of it.
use Rattle.std.proofs.Common.{◌≡◌, ℕ, List, ◌++◌, Some, None, refl, sym, subst, append-nil}
use Rattle.std.specs.Prelude.{Result, Ok, Err}
use Rattle.vms_base.specs.declared.headers.Header.{Header}
use Rattle.vms_header.specs.declared.causes.HeaderCause.{HeaderCause}
use Rattle.vms_header.specs.Common.{Draft, header_of, Stage, HeadStep, Goes, Ends}
use Rattle.vms_stream.specs.Common.{Text}
use Rattle.vms_stream.specs.declared.statuses.Status.TheVariants as statuses
use Rattle.vms_command.specs.declared.body_jobs.BodyJob.{BodyJob}
use Rattle.vms_command.specs.declared.trace_jobs.Work.TheVariants as works
use Rattle.vms_command.specs.Common.{TraceCommand, LinesAbove, header_line, BeginsBody, TakesHeadLine}

module _ {K O B : Type 0} (command : TraceCommand K O)
    (stands : B → Header → ℕ → LinesAbove → K → List (Text O) → Type 0)
    (n : ℕ) (read : Result HeadStep HeaderCause) where
  -- the header goes on
  pub head-goes : (stage : Stage) (out : List ℕ) → read ≡ Ok (Goes stage)
      → TakesHeadLine command stands n read None out out (works.Header stage)
  head-goes stage out is =
      subst (λ (t : Result HeadStep HeaderCause). TakesHeadLine command stands n t None out out (works.Header stage))
      (sym is)
      (record { halt_is = refl; printed = sym (append-nil out); leads = λ _. refl })

  -- the body begins
  pub head-begins : (draft : Draft) (header : Header) (job : BodyJob B) (out out' : List ℕ) → read ≡ Ok (Ends draft)
      → header ≡ header_of draft
      → BeginsBody command stands header out out' job → TakesHeadLine command stands n read None out out'
      (works.Body job)
  head-begins draft header job out out' is same begins =
      let here = subst (λ (h : Header). BeginsBody command stands h out out' job) same begins in
      subst (λ (t : Result HeadStep HeaderCause). TakesHeadLine command stands n t None out out' (works.Body job))
      (sym is)
      (record { halt_is = refl; printed = here.printed; leads = λ _. (here.same_header, here.here) })

  -- the line is at fault
  pub head-refused : (cause : HeaderCause) (out out' : List ℕ) → read ≡ Err cause
      → out' ≡ out ++ header_line (record { line = n; cause = cause })
      → TakesHeadLine command stands n read (Some statuses.Header) out out' works.Stopped
  head-refused cause out out' is printed =
      subst (λ (t : Result HeadStep HeaderCause).
      TakesHeadLine command stands n t (Some statuses.Header) out out' works.Stopped)
      (sym is)
      (record { halt_is = refl; printed = printed; leads = λ none. absurd cc })
