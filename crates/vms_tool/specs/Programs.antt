-- What the program does with its arguments.
use Rattle.std.specs.Prelude.{◌≡◌, ◌≢◌, ◌⊎◌, ℕ, List, [], drop, map, string_bytes, Option, Result, Ok, Err}
use Rattle.std.specs.IoError.{error_kind}
use Rattle.std.specs.Process.{exit_status}
use Rattle.std.specs.Vec.Iter.{into_iter_items}
use Rattle.std.specs.declared.alloc.Global.{Global}
use Rattle.std.specs.declared.io.Error.{Error}
use Rattle.std.specs.declared.io.ErrorKind.TheVariants.{OutOfMemory}
use Rattle.std.specs.declared.process.ExitCode.{ExitCode}
use Rattle.std.specs.declared.string.String.{String}
use Rattle.std.specs.declared.vec.IntoIter.{IntoIter}
use Rattle.vms_stream.specs.declared.statuses.Status.{Status}
use Rattle.vms_stream.specs.declared.statuses.Status.TheVariants.{Memory}
use Rattle.vms_tool.specs.declared.histories.Histories.{Histories}
use Rattle.vms_tool.specs.Answers.{AnswersUnder, ReadsNothing}
use Rattle.vms_tool.specs.Exits.{code_of}
use Rattle.vms_tool.specs.Naming.{command_of}

-- the arguments as the system gives them, the program's name first
abbrev pub Arguments : Type 0
Arguments = Result (IntoIter (String Global) Global) Error

-- the words of these arguments: those after the program's name. Where an argument isn't UTF-8 there are no words
abbrev pub AreWordsOf : Arguments → List (String Global) → Type 0
AreWordsOf (Ok args) words = words ≡ drop 1 (into_iter_items args)
AreWordsOf (Err error) words = (error_kind error ≢ OutOfMemory) × (words ≡ [])

-- memory may run out before the words are there, and has where the system had none for the arguments
abbrev pub MayLackWords : Arguments → Type 0
MayLackWords (Ok args) = Unit {0}
MayLackWords (Err error) = error_kind error ≡ OutOfMemory

-- what is done under words: what their command answers, and where it reads nothing the source stays as it was
pub record DoesUnder {S K : Type 0} (old new : Histories) (left : S → Option (List ℕ)) (read_faults read_calls : S → ℕ)
    (held : K → Option (List ℕ)) (write_faults write_calls : K → ℕ) (src src' : S) (out out' : K) (status : Status)
    (words : List (List ℕ)) : Type 0 where
  pub answers : AnswersUnder words old new left read_faults read_calls held write_faults write_calls src src' out out'
      status
  pub unread : ReadsNothing (command_of words) → src' ≡ src

-- there was no memory for the words, and nothing was done
pub record DoesNothing {S K : Type 0} (old new : Histories) (src src' : S) (out out' : K) (status : Status)
    : Type 0 where
  pub memory : status ≡ Memory
  pub unread : src' ≡ src
  pub unwritten : out' ≡ out
  pub unmade : new ≡ old

-- what the program does with its arguments, and the code with which it ends: the one of the status
pub record RunsProgram {S K : Type 0} (args : Arguments) (old new : Histories) (left : S → Option (List ℕ))
    (read_faults read_calls : S → ℕ) (held : K → Option (List ℕ)) (write_faults write_calls : K → ℕ) (src src' : S)
    (out out' : K)
    (code : ExitCode) : Type 0 where
  pub status : Status
  pub code_is : exit_status code ≡ code_of status
  pub does : ((words : List (String Global)) × AreWordsOf args words
      × DoesUnder old new left read_faults read_calls held write_faults write_calls src src' out out' status
      (map (λ word. string_bytes word) words))
      ⊎ (MayLackWords args × DoesNothing old new src src' out out' status)
