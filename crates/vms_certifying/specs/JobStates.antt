-- What the command's job holds after the lines that it took.
use Rattle.std.specs.Prelude.{◌≡◌, ℕ, suc, ◌+◌, ◌≤◌, List, [], ◌++◌, length, Option, Some, None, Result, Ok}
use Rattle.vms_base.specs.declared.headers.Header.{Header}
use Rattle.vms_header.specs.declared.causes.HeaderCause.{HeaderCause}
use Rattle.vms_header.specs.Common.{header_of, Stage, HeadStep, Goes, Ends}
use Rattle.vms_script.specs.Common.{Segment}
use Rattle.vms_stream.specs.declared.statuses.Status.{Status}
use Rattle.vms_command.specs.Common.{most_lines, refuses}
use Rattle.vms_certifying.specs.declared.jobs.CertifyJob.{CertifyJob}
use Rattle.vms_certifying.specs.declared.jobs.Work.{Work}
use Rattle.vms_certifying.specs.declared.jobs.Work.TheVariants as works
use Rattle.vms_certifying.specs.declared.verdicts.Verdict.{Verdict}
use Rattle.vms_certifying.specs.declared.verdicts.Verdicts.{Verdicts}
use Rattle.vms_certifying.specs.Certifying.{CertifyState, printed_head}
use Rattle.vms_certifying.specs.Certifying.CertifyState.{Heading, Trace}
use Rattle.vms_certifying.specs.TraceParts.{KeepsTrace}
use Rattle.vms_certifying.specs.Verdicts.{verdicts_of}
use Rattle.vms_certifying.specs.WrittenParts.{InWritten, KeepsWritten}
use Rattle.vms_certifying.specs.declared.trace_parts.TracePart.{TracePart}

-- the verdicts are what the command has made
abbrev pub made_by : Verdicts → Option (List Verdict)
made_by verdicts = Some (verdicts_of verdicts)

-- nothing is shown at the end of the input
abbrev pub shown_nothing : CertifyState → Option Verdict → Type 0
shown_nothing state given = Unit {0}

module _ {J : Type 0} (Gathers : Header → List Segment → J → Type 0)
    (Accepts : Header → List Segment → List (List ℕ) → J → Type 0) where
  -- the command stands before line n, which is one of the trace
  pub record InTrace (n : ℕ) (part : TracePart J) (state : CertifyState) : Type 0 where
    pub first : ℕ
    pub texts : List (List ℕ)
    pub keeps : KeepsTrace Gathers first texts part
    pub number : n ≡ first + length texts
    pub state_is : state ≡ Trace part.header first texts

  -- before line n the command is at work on what its state says
  abbrev pub IsWork : ℕ → Work J → CertifyState → Type 0
  IsWork n (works.Header reader) state = state ≡ Heading n reader
  IsWork n (works.Trace part) state = InTrace n part state
  IsWork n (works.Written part) state = InWritten Accepts n part state
  IsWork n works.Stopped state = ⊥

  -- the command after lines that bring it to this state
  pub record StandsAt (job : CertifyJob J) (state : CertifyState) : Type 0 where
    pub least : 1 ≤ job.line
    pub most : job.line ≤ suc most_lines
    pub work : IsWork job.line job.work state

  -- a header is read, up to this stage
  abbrev pub IsHead : Stage → Work J → Type 0
  IsHead stage (works.Header reader) = reader ≡ stage
  IsHead stage work = ⊥

  -- the work that comes after a line of a header, by what was read of it
  abbrev pub StepsToWork : Result HeadStep HeaderCause → Work J → Type 0
  StepsToWork (Ok (Goes stage)) work = IsHead stage work
  StepsToWork (Ok (Ends draft)) (works.Trace part) =
      (part.header ≡ header_of draft) × ((first : ℕ) → KeepsTrace Gathers first [] part)
  StepsToWork read work = ⊥

  -- line n of a header was taken, of which this was read
  pub record TakesHeadLine (n : ℕ) (read : Result HeadStep HeaderCause) (halt : Option Status) (out out' : List ℕ)
      (work : Work J) : Type 0 where
    pub halt_is : halt ≡ refuses read
    pub printed : out' ≡ out ++ printed_head n read
    pub leads : halt ≡ None → StepsToWork read work

  -- the work after the line that ends the trace of this part
  abbrev pub BeginsHistory : TracePart J → Work J → Type 0
  BeginsHistory part (works.Written written) = (first : ℕ) (texts : List (List ℕ)) → KeepsTrace Gathers first texts part
      → (written.header ≡ part.header) × KeepsWritten Accepts first texts [] written
  BeginsHistory part work = ⊥

  -- a trace that is read is some lines of a body, and these are few
  abbrev pub MayEndTrace : Work J → Type 0
  MayEndTrace (works.Trace part) = (first : ℕ) × (texts : List (List ℕ)) × KeepsTrace Gathers first texts part
      × (length texts ≤ most_lines)
  MayEndTrace work = Unit {0}

  -- a line ended the trace, if one is read
  abbrev pub EndsTrace : Work J → Work J → Type 0
  EndsTrace (works.Trace part) work = BeginsHistory part work
  EndsTrace old work = Unit {0}
