-- How the command takes a line of a header, by what the line makes of it.
use Rattle.std.proofs.Common.{◌≡◌, ℕ, List, [], ◌++◌, Some, None, refl, sym, subst, ◌∙◌, append-nil}
use Rattle.std.specs.Prelude.{Result, Ok, Err}
use Rattle.vms_base.specs.declared.headers.Header.{Header}
use Rattle.vms_header.specs.declared.causes.HeaderCause.{HeaderCause}
use Rattle.vms_header.specs.Common.{Draft, header_of, Stage, HeadStep, Goes, Ends}
use Rattle.vms_script.specs.Common.{Segment}
use Rattle.vms_stream.specs.declared.statuses.Status.TheVariants as statuses
use Rattle.vms_command.specs.Common.{header_line}
use Rattle.vms_certifying.specs.declared.jobs.Work.TheVariants as works
use Rattle.vms_certifying.specs.declared.trace_parts.TracePart.{TracePart}
use Rattle.vms_certifying.specs.JobStates.{TakesHeadLine}
use Rattle.vms_certifying.specs.TraceParts.{KeepsTrace}

module _ {J : Type 0} (Gathers : Header → List Segment → J → Type 0)
    (Accepts : Header → List Segment → List (List ℕ) → J → Type 0) (n : ℕ) (read : Result HeadStep HeaderCause) where
  -- the header goes on
  pub head-goes : (stage : Stage) (out : List ℕ) → read ≡ Ok (Goes stage)
      → TakesHeadLine Gathers Accepts n read None out out (works.Header stage)
  head-goes stage out is =
      subst (λ (t : Result HeadStep HeaderCause). TakesHeadLine Gathers Accepts n t None out out (works.Header stage))
      (sym is) (record { halt_is = refl; printed = sym (append-nil out); leads = λ _. refl })

  -- the body begins
  pub head-begins : (draft : Draft) (header : Header) (part : TracePart J) (out : List ℕ) → read ≡ Ok (Ends draft)
      → header ≡ header_of draft → part.header ≡ header → ((first : ℕ) → KeepsTrace Gathers first [] part)
      → TakesHeadLine Gathers Accepts n read None out out (works.Trace part)
  head-begins draft header part out is same kept begins =
      subst (λ (t : Result HeadStep HeaderCause). TakesHeadLine Gathers Accepts n t None out out (works.Trace part))
      (sym is) (record {
        halt_is = refl;
        printed = sym (append-nil out);
        leads = λ _. (kept ∙ same, begins);
      })

  -- the line is at fault
  pub head-refused : (cause : HeaderCause) (out out' : List ℕ) → read ≡ Err cause
      → out' ≡ out ++ header_line (record { line = n; cause = cause })
      → TakesHeadLine Gathers Accepts n read (Some statuses.Header) out out' works.Stopped
  head-refused cause out out' is printed =
      subst (λ (t : Result HeadStep HeaderCause). TakesHeadLine Gathers Accepts n t (Some statuses.Header) out out'
      works.Stopped) (sym is)
      (record { halt_is = refl; printed = printed; leads = λ none. absurd cc })
