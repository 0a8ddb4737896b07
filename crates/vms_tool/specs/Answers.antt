-- What each status says, by the words.
use Rattle.std.specs.Prelude.{◌≡◌, ◌≢◌, ℕ, List, [], ◌∷◌, ◌++◌, codes, Option, Some, None}
use Rattle.std.specs.Io.KnownBytes.{Appends}
use Rattle.vms_certify.specs.KernelRules.{kernel_rules}
use Rattle.vms_certifying.specs.Answers.{SaysCertified}
use Rattle.vms_check.specs.Common.{check, shown_by_check}
use Rattle.vms_gen.specs.Common.{Ungiven, made_text}
use Rattle.vms_gen.specs.declared.numbers.Numbers.{Numbers}
use Rattle.vms_groups.specs.Common.{SaysGroups}
use Rattle.vms_record.specs.Answers.{SaysRecord}
use Rattle.vms_replay.specs.Common.{SaysReplay, PastPhase, SaysReplayed}
use Rattle.vms_run.specs.Common.{makes_on_threads, reading_made}
use Rattle.vms_stream.specs.Common.{Reading, TakesAndWrites, Says}
use Rattle.vms_stream.specs.declared.statuses.Status.{Status}
use Rattle.vms_stream.specs.declared.statuses.Status.TheVariants.{Words, ReadFault, WriteFault}
use Rattle.vms_tool.specs.Naming.{command_of}
use Rattle.vms_tool.specs.declared.histories.Histories.{Histories}
use Rattle.vms_tool.specs.declared.naming.Command.{Command}
use Rattle.vms_tool.specs.declared.naming.Command.TheVariants.{Check, Replay, Run, Gen, Groups, Record, Certify}

-- what is written for words that name no command
abbrev pub usage_line : List ℕ
usage_line = codes "usage: check | replay | run | gen SEED CPUS LINES | groups | record | certify" ++ 10 ∷ []

-- the usage line was written, or a part of it
abbrev pub ShownAs : Status → List ℕ → Type 0
ShownAs Words written = written ≡ usage_line
ShownAs WriteFault written = (unwritten : List ℕ) × (usage_line ≡ written ++ unwritten)
ShownAs _ written = ⊥

pub record ShowsUsage (held held' : Option (List ℕ)) (status : Status) : Type 0 where
  pub written : List ℕ
  pub appends : Appends held held' written
  pub outcome : ShownAs status written

-- what each status of `gen` says: nothing was taken of the source. Of the text that its numbers make a first part was
-- read, and the phases that were made of it and what was written are those of a run that takes it. No read failed
pub record SaysMade (numbers : Numbers) (made : List PastPhase) (status : Status) (taken written : List ℕ)
    : Type 0 where
  pub untaken : taken ≡ []
  pub read : List ℕ
  pub unread : Ungiven
  pub parts : made_text numbers.seed numbers.cpus numbers.lines ≡ read ++ unread.left
  pub says : SaysReplayed makes_on_threads made status read written (reading_made numbers unread)
  pub reads : status ≢ ReadFault

-- no phase was made on threads
abbrev pub no_phases : Histories
no_phases = record { phases = []; groups = [] }

-- what each status says of a command that made these phases on threads: `run` and `gen` make none of groups, `groups`
-- none of the other tables, and every other command none. With words that name none nothing is read, and the usage line
-- is written
abbrev pub SaysOf : Option Command → Histories → Status → List ℕ → List ℕ → Reading → Type 0
SaysOf (Some Check) made status taken written reading =
    (made ≡ no_phases) × Says check shown_by_check status taken written reading
SaysOf (Some Replay) made status taken written reading = (made ≡ no_phases) × SaysReplay status taken written reading
SaysOf (Some Run) made status taken written reading =
    (made.groups ≡ []) × SaysReplayed makes_on_threads made.phases status taken written reading
SaysOf (Some (Gen numbers)) made status taken written reading =
    (made.groups ≡ []) × SaysMade numbers made.phases status taken written
SaysOf (Some Groups) made status taken written reading =
    (made.phases ≡ []) × SaysGroups made.groups status taken written reading
SaysOf (Some Record) made status taken written reading = (made ≡ no_phases) × SaysRecord status taken written reading
SaysOf (Some Certify) made status taken written reading =
    (made ≡ no_phases) × SaysCertified kernel_rules status taken written reading
SaysOf None made status taken written reading = (made ≡ no_phases) × (taken ≡ []) × ShownAs status written

-- what the program did under these words: the phases that it made on threads are appended to the histories that stood,
-- and its status says of them what was taken of the source, what was written to the sink, and which calls failed.
-- For every trace, each phase of `run` is, in each table, one legal history of its lanes' lines. At every moment of it
-- each global value, all that CPUs hold and all that callers carry add up to the base and the accepted changes. A
-- global value alone is off by at most the thresholds used last, or for a percpu counter a batch for each CPU that is
-- present, and the sizes of what callers carry. Every answer that is printed is that history's, and one on page or
-- percpu counters tells what was true at moments of it. Every total that `report totals` prints is the plain sum.
pub record AnswersUnder {S K : Type 0} (words : List (List ℕ)) (old new : Histories)
    (left : S → Option (List ℕ)) (read_faults read_calls : S → ℕ) (held : K → Option (List ℕ))
    (write_faults write_calls : K → ℕ)
    (src src' : S) (out out' : K) (status : Status) : Type 0 where
  pub made : Histories
  pub phases : new.phases ≡ old.phases ++ made.phases
  pub groups : new.groups ≡ old.groups ++ made.groups
  pub answers : TakesAndWrites left read_faults read_calls held write_faults write_calls src src' out out' status
      (SaysOf (command_of words) made)

-- words with which nothing is read: those of `gen`, and those that name no command
abbrev pub ReadsNothing : Option Command → Type 0
ReadsNothing (Some (Gen numbers)) = Unit {0}
ReadsNothing None = Unit {0}
ReadsNothing _ = ⊥
