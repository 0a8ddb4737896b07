-- What `gen` says, whose trace is made from three numbers.
use Rattle.std.specs.Prelude.{◌≡◌, ◌≢◌, ℕ, List, ◌++◌, Option, Some}
use Rattle.std.specs.Io.KnownBytes.{Appends}
use Rattle.vms_gen.specs.Common.{Ungiven, made_text}
use Rattle.vms_gen.specs.declared.numbers.Numbers.{Numbers}
use Rattle.vms_replay.specs.Common.{PastPhase, SaysReplayed}
use Rattle.vms_stream.specs.Common.{FaultsOfSink, Grows, Reading, reading_of}
use Rattle.vms_stream.specs.declared.statuses.Status.{Status}
use Rattle.vms_stream.specs.declared.statuses.Status.TheVariants.{ReadFault}
use Rattle.vms_run.specs.Threads.{makes_on_threads}

-- how far the text that these numbers make was read, of which this wasn't
abbrev pub reading_made : Numbers → Ungiven → Reading
reading_made numbers unread =
    reading_of (λ (source : Ungiven). Some source.left) (λ (source : Ungiven). source.calls)
    (record { left = made_text numbers.seed numbers.cpus numbers.lines; calls = 0 }) unread

-- a run took the front of the text that these numbers make, wrote bytes to its sink, and made phases, by which what was
-- kept before grew. The input ends where the whole text was taken, and no read fails
pub record AnswersMade {K : Type 0} (numbers : Numbers) (kept kept' : List PastPhase) (held : K → Option (List ℕ))
    (write_faults write_calls : K → ℕ) (out out' : K) (status : Status) : Type 0 where
  pub made : List PastPhase
  pub grows : Grows (Some kept) (Some kept') made
  pub taken : List ℕ
  pub unread : Ungiven
  pub text : made_text numbers.seed numbers.cpus numbers.lines ≡ taken ++ unread.left
  pub written : List ℕ
  pub appends : Appends (held out) (held out') written
  pub answer : SaysReplayed makes_on_threads made status taken written (reading_made numbers unread)
  pub reads : status ≢ ReadFault
  pub writes : FaultsOfSink held write_faults write_calls status out out'
