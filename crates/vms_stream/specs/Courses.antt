-- A command on its way through its input.
use Rattle.std.specs.Prelude.{◌≡◌, ℕ, ◌-◌, ◌≤◌, ◌<◌, Bool, true, false, List, [], ◌++◌, length, take, Option, Some}
use Rattle.std.specs.Prelude.{None, Result, Ok, Err, MatchResult}
use Rattle.std.specs.Io.KnownBytes.{Appends, Consumes}
use Rattle.vms_io.specs.declared.failures.ReadError.{ReadError}
use Rattle.vms_io.specs.declared.failures.ReadError.TheVariants as failures
use Rattle.vms_stream.specs.declared.courses.Course.{Course}
use Rattle.vms_stream.specs.declared.statuses.Status.{Status}
use Rattle.vms_stream.specs.declared.statuses.Status.TheVariants.{Memory, ReadFault, TooLong}
use Rattle.vms_stream.specs.Answers.{most_bytes, FaultsOfSource, FaultsOfSink}
use Rattle.vms_stream.specs.Behaviors.{Behavior, state_after, halted, printed}
use Rattle.vms_stream.specs.Jobs.{Grows, StandsOn}
use Rattle.vms_stream.specs.Leading.{OutcomesLead}
use Rattle.vms_stream.specs.PhasedAnswers.{SaysPhased}
use Rattle.vms_stream.specs.PhasedBehaviors.{PhasedBehavior, with_outcomes}
use Rattle.vms_stream.specs.Pieces.{whole_lines, partial_line}
use Rattle.vms_stream.specs.Readings.{Reading}
use Rattle.vms_text.specs.Common.{lines_of}

-- the status of a command that a read stopped
abbrev pub status_of_read : ReadError → Status
status_of_read failures.Failed = ReadFault
status_of_read failures.Memory = Memory

-- the status of a command, whether it came to its end or stopped
abbrev pub status_in : Result Status Status → Status
status_in (Ok status) = status
status_in (Err status) = status

-- calls fail only with the statuses that faults cause
abbrev pub CountsReads : {S A : Type 0} → (S → Option (List ℕ)) → (S → ℕ) → (S → ℕ) → Result A Status → S → S
    → Type 0
CountsReads left faults calls result before now = MatchResult result (λ _. faults now ≡ faults before)
    (λ status. FaultsOfSource left faults calls status before now)

abbrev pub CountsWrites : {K A : Type 0} → (K → Option (List ℕ)) → (K → ℕ) → (K → ℕ) → Result A Status → K → K
    → Type 0
CountsWrites held faults calls result before now = MatchResult result (λ _. faults now ≡ faults before)
    (λ status. FaultsOfSink held faults calls status before now)

-- the lines that are judged: the whole ones, and at the end of the input all
abbrev pub lines_judged : Bool → List ℕ → List (List ℕ)
lines_judged true taken = lines_of taken
lines_judged false taken = whole_lines taken

-- how many bytes of what is held count: those that are among the first 64 MiB that were taken
abbrev pub counted_bytes : Course → ℕ
counted_bytes course = length course.input - (course.taken - most_bytes)

-- the lines of what is held that can be judged
abbrev pub lines_held : Course → List (List ℕ)
lines_held course = lines_judged course.at_end (take (counted_bytes course) course.input)

-- a course between two pieces: the job stands after the lines that were taken, all was written that they print, and
-- what stands after the last newline is held
pub record IsCourse {S : Type 0} (behavior : Behavior S) (stands : S → Type 0) (taken written : List ℕ)
    (course : Course) : Type 0 where
  pub counted : course.taken ≡ length taken
  pub within : length taken ≤ most_bytes
  pub none_halts : halted behavior behavior.start (lines_judged course.at_end taken) ≡ None
  pub stands_after : stands (state_after behavior behavior.start (lines_judged course.at_end taken))
  pub all_written : written ≡ printed behavior behavior.start (lines_judged course.at_end taken)
  pub nothing_waits : course.waiting.items ≡ []
  pub held : course.at_end ≡ false → course.input ≡ partial_line taken

-- the same of a command whose phases have outcomes: these are the outcomes of the phases that ended
pub record IsPhasedCourse {S O : Type 0} (phased : PhasedBehavior S O) (stands : S → Type 0) (outcomes : List O)
    (taken written : List ℕ) (course : Course) : Type 0 where
  pub is_course : IsCourse (with_outcomes phased outcomes) (StandsOn stands) taken written course
  pub leads : OutcomesLead phased phased.start outcomes (lines_judged course.at_end taken)

-- one piece further: bytes were taken, phases made and bytes written, and the course goes on or stops. `reading` is
-- that of the command so far
pub record StepsPhased {S O : Type 0} (phased : PhasedBehavior S O) (stands : S → Type 0)
    (shows : S → Option O → Type 0) (outcomes : List O) (taken written : List ℕ) (course' : Course)
    (made made' : Option (List O)) (left left' held held' : Option (List ℕ)) (reading : Reading)
    (result : Result (Unit {0}) Status) : Type 0 where
  pub further : List O
  pub more : List ℕ
  pub moved : List ℕ
  pub grows : Grows made made' further
  pub consumes : Consumes left left' more
  pub appends : Appends held held' moved
  pub outcome : MatchResult result
      (λ _. IsPhasedCourse phased stands (outcomes ++ further) (taken ++ more) (written ++ moved) course'
      × (course'.at_end ≡ true → reading.at_end))
      (λ stop. SaysPhased phased shows (outcomes ++ further) stop (taken ++ more) (written ++ moved) reading)

-- the end of a course, with the outcome of the phase that ends there, if one does: the last words are written, or the
-- command stops before
pub record FinishesPhased {S O : Type 0} (phased : PhasedBehavior S O) (shows : S → Option O → Type 0)
    (outcomes : List O) (taken written : List ℕ) (made made' : Option (List O)) (held held' : Option (List ℕ))
    (reading : Reading) (result : Result Status Status) : Type 0 where
  pub further : List O
  pub moved : List ℕ
  pub grows : Grows made made' further
  pub appends : Appends held held' moved
  pub outcome : SaysPhased phased shows (outcomes ++ further) (status_in result) taken (written ++ moved) reading

-- a command stops where a line stops it, and else where there are too many bytes
abbrev pub StopsAt : Option Status → ℕ → Result (Unit {0}) Status → Type 0
StopsAt (Some halt) taken result = result ≡ Err halt
StopsAt None taken result =
    MatchResult result (λ _. taken ≤ most_bytes) (λ status. (status ≡ TooLong) × (most_bytes < taken))
