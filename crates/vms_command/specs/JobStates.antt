-- What a command's job holds after the lines that it took, by what its body holds.
use Rattle.std.specs.Prelude.{◌≡◌, ℕ, ◌+◌, ◌<◌, ◌≤◌, suc, List, [], ◌++◌, length, Option, None, Result, Ok}
use Rattle.vms_base.specs.declared.headers.Header.{Header}
use Rattle.vms_header.specs.declared.causes.HeaderCause.{HeaderCause}
use Rattle.vms_header.specs.Common.{header_of, Stage, HeadStep, Goes, Ends, IsWritable}
use Rattle.vms_script.specs.Common.{JudgeStands}
use Rattle.vms_stream.specs.declared.statuses.Status.{Status}
use Rattle.vms_stream.specs.Common.{Text, Waiting}
use Rattle.vms_command.specs.declared.body_jobs.BodyJob.{BodyJob}
use Rattle.vms_command.specs.declared.trace_jobs.Work.{Work}
use Rattle.vms_command.specs.declared.trace_jobs.Work.TheVariants as works
use Rattle.vms_command.specs.declared.trace_jobs.TraceJob.{TraceJob}
use Rattle.vms_command.specs.Commands.{TraceCommand, CommandState, printed_head, refuses}
use Rattle.vms_command.specs.Commands.CommandState.{Heading, Body}
use Rattle.vms_command.specs.Limits.{most_lines}
use Rattle.vms_command.specs.Lines.{LinesAbove, nothing_above}
use Rattle.vms_command.specs.Tallies.{IsTallyOf}

-- a body's job before line n, after lines that came to this, of which its body keeps this
pub record StandsAfter {K O B : Type 0} (stands : B → Header → ℕ → LinesAbove → K → List (Text O) → Type 0)
    (n : ℕ) (above : LinesAbove) (kept : K) (waits : List (Text O)) (job : BodyJob B) : Type 0 where
  pub writable : IsWritable job.header
  pub judges : JudgeStands job.header above.lines job.judge
  pub tells : IsTallyOf above job.tally
  pub after : stands job.body job.header n above kept waits

-- a command stands before line n of a body, after fewer lines than that, and this is the body's job
pub record InBody {K O B : Type 0} (stands : B → Header → ℕ → LinesAbove → K → List (Text O) → Type 0) (n : ℕ)
    (job : BodyJob B) (now : Waiting (CommandState K) O) : Type 0 where
  pub above : LinesAbove
  pub kept : K
  pub waits : List (Text O)
  pub here : StandsAfter stands n above kept waits job
  pub fewer : length above.lines + above.refused < n
  pub now_is : now ≡ record { state = Body n job.header above kept; waits = waits }

-- the same before some line, or at the end of the trace
pub record InSomeBody {K O B : Type 0} (stands : B → Header → ℕ → LinesAbove → K → List (Text O) → Type 0)
    (job : BodyJob B) (now : Waiting (CommandState K) O) : Type 0 where
  pub number : ℕ
  pub most : number ≤ suc most_lines
  pub inside : InBody stands number job now

-- a header was accepted, and its body begins
pub record BeginsBody {K O B : Type 0} (command : TraceCommand K O)
    (stands : B → Header → ℕ → LinesAbove → K → List (Text O) → Type 0)
    (header : Header) (out out' : List ℕ) (job : BodyJob B) : Type 0 where
  pub printed : out' ≡ out ++ command.opens header
  pub same_header : job.header ≡ header
  pub here : (n : ℕ) → 1 ≤ n → StandsAfter stands n nothing_above (command.begins header) [] job

-- a header is read, up to this stage
abbrev pub IsHead : {B : Type 0} → Stage → Work B → Type 0
IsHead stage (works.Header reader) = reader ≡ stage
IsHead stage work = ⊥

-- the work that comes after a line of a header, by what was read of it
abbrev pub StepsToWork : {K O B : Type 0} → TraceCommand K O →
    (B → Header → ℕ → LinesAbove → K → List (Text O) → Type 0)
    → Result HeadStep HeaderCause → Work B → Type 0
StepsToWork command stands (Ok (Goes stage)) work = IsHead stage work
StepsToWork command stands (Ok (Ends draft)) (works.Body job) = (job.header ≡ header_of draft)
    × ((n : ℕ) → 1 ≤ n → StandsAfter stands n nothing_above (command.begins (header_of draft)) [] job)
StepsToWork command stands read work = ⊥

-- a command took line n of a header, of which this was read
pub record TakesHeadLine {K O B : Type 0} (command : TraceCommand K O)
    (stands : B → Header → ℕ → LinesAbove → K → List (Text O) → Type 0) (n : ℕ)
    (read : Result HeadStep HeaderCause) (halt : Option Status) (out out' : List ℕ) (work : Work B) : Type 0 where
  pub halt_is : halt ≡ refuses read
  pub printed : out' ≡ out ++ printed_head command n read
  pub leads : halt ≡ None → StepsToWork command stands read work

-- before line n a command is at work on what its state says: on a header, of which no text waits, or on a body
abbrev pub IsWork : {K O B : Type 0} → (B → Header → ℕ → LinesAbove → K → List (Text O) → Type 0) → ℕ → Work B
    → Waiting (CommandState K) O → Type 0
IsWork stands n (works.Header reader) now = now ≡ record { state = Heading n reader; waits = [] }
IsWork stands n (works.Body job) now = InBody stands n job now
IsWork stands n works.Stopped now = ⊥

-- a command after lines that bring it to this state
pub record StandsAt {K O B : Type 0} (stands : B → Header → ℕ → LinesAbove → K → List (Text O) → Type 0)
    (job : TraceJob B) (now : Waiting (CommandState K) O) : Type 0 where
  pub least : 1 ≤ job.line
  pub most : job.line ≤ suc most_lines
  pub work : IsWork stands job.line job.work now
