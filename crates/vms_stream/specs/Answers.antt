-- What each status says of the bytes that were taken and of those that were written.
use Rattle.std.specs.Prelude.{◌≡◌, ℕ, ◌^◌, ◌<◌, ◌≤◌, ◌⊎◌, max, List, ◌++◌, length, take, Option, Some, None}
use Rattle.std.specs.Io.KnownBytes.{Appends, Consumes}
use Rattle.vms_io.specs.Common.{LastFails}
use Rattle.vms_stream.specs.declared.statuses.Status.{Status}
use Rattle.vms_stream.specs.declared.statuses.Status.TheVariants.{Done, Words, Header, Refused, ReadFault, WriteFault}
use Rattle.vms_stream.specs.declared.statuses.Status.TheVariants.{Memory, NotCertified, TooLong}
use Rattle.vms_stream.specs.Behaviors.{Behavior, state_after, halted, printed, output}
use Rattle.vms_stream.specs.Pieces.{whole_lines, partial_line}
use Rattle.vms_stream.specs.Readings.{Reading, reading_of}
use Rattle.vms_text.specs.Common.{lines_of}

-- the most bytes of an input
abbrev pub most_bytes : ℕ
most_bytes = 2 ^ 26

-- the whole lines of what was taken; those among the first 64 MiB alone count
abbrev pub lines_taken : List ℕ → List (List ℕ)
lines_taken taken = whole_lines (take most_bytes taken)

-- the lines that count: the whole lines, or at the end of the input all
abbrev pub AreLinesTaken : List ℕ → List (List ℕ) → Type 0 → Type 0
AreLinesTaken taken lines at_end =
    (lines ≡ lines_taken taken) ⊎ (at_end × (length taken ≤ most_bytes) × (lines ≡ lines_of taken))

-- nothing was read after the piece that decided: it is what the last call brought, and before it the command went on. A
-- piece has 64 KiB at most, or as many bytes as the line in which it begins had before it
pub record IsLastPiece {S : Type 0} (behavior : Behavior S) (taken : List ℕ) (reading : Reading) : Type 0 where
  pub before : List ℕ
  pub piece : List ℕ
  pub pieces : taken ≡ before ++ piece
  pub by_call : reading.last_call before piece
  pub one_piece : length piece ≤ max 65536 (length (partial_line before))
  pub within_before : length before ≤ most_bytes
  pub none_before : halted behavior behavior.start (whole_lines before) ≡ None

-- a line stopped the command with this status, and all was written that is printed up to it
pub record Halts {S : Type 0} (behavior : Behavior S) (halt : Status) (taken written : List ℕ)
    (reading : Reading) : Type 0 where
  pub lines : List (List ℕ)
  pub judged : AreLinesTaken taken lines reading.at_end
  pub halt_is : halted behavior behavior.start lines ≡ Some halt
  pub whole_output : written ≡ printed behavior behavior.start lines
  pub last_piece : IsLastPiece behavior taken reading

-- the input has too many bytes, and no whole line that counts stops the command
pub record Oversteps {S : Type 0} (behavior : Behavior S) (taken written : List ℕ) (reading : Reading) : Type 0 where
  pub beyond : most_bytes < length taken
  pub none_halts : halted behavior behavior.start (lines_taken taken) ≡ None
  pub whole_output : written ≡ printed behavior behavior.start (lines_taken taken)
  pub last_piece : IsLastPiece behavior taken reading

-- the command came to the end of its input, the whole output was written, and the job showed what it does there
pub record Ends {S : Type 0} (behavior : Behavior S) (shows : S → Type 0) (ending : Status) (taken written : List ℕ)
    (at_end : Type 0) : Type 0 where
  pub ended : at_end
  pub within : length taken ≤ most_bytes
  pub none_halts : halted behavior behavior.start (lines_of taken) ≡ None
  pub ending_is : behavior.ends (state_after behavior behavior.start (lines_of taken)) ≡ ending
  pub whole_output : written ≡ output behavior (lines_of taken)
  pub shown : shows (state_after behavior behavior.start (lines_of taken))

-- the command went on, and all was written that the whole lines print
pub record GoesOn {S : Type 0} (behavior : Behavior S) (taken written : List ℕ) : Type 0 where
  pub within : length taken ≤ most_bytes
  pub none_halts : halted behavior behavior.start (whole_lines taken) ≡ None
  pub all_written : written ≡ printed behavior behavior.start (whole_lines taken)

-- what is to be written: what the whole lines print that count, and only at the end of the input the whole output
abbrev pub IsDue : {S : Type 0} → Behavior S → List ℕ → List ℕ → Type 0 → Type 0
IsDue behavior taken text at_end =
    (text ≡ printed behavior behavior.start (lines_taken taken))
    ⊎ (at_end × (length taken ≤ most_bytes) × (text ≡ output behavior (lines_of taken)))

-- what was written begins what is to be written. Nothing was read after a piece in which a line stopped the command, or
-- the bytes exceeded 64 MiB, nor before all was written that the whole lines above the piece print
pub record BeginsOutput {S : Type 0} (behavior : Behavior S) (taken written : List ℕ) (reading : Reading)
    : Type 0 where
  pub unwritten : List ℕ
  pub due : IsDue behavior taken (written ++ unwritten) reading.at_end
  pub last_piece : IsLastPiece behavior taken reading
  pub after_above : List ℕ
  pub above_written : written ≡ printed behavior behavior.start (whole_lines last_piece.before) ++ after_above

-- what each status of a command says. `shows` is what its job shows at the end of the input
abbrev pub Says : {S : Type 0} → Behavior S → (S → Type 0) → Status → List ℕ → List ℕ → Reading → Type 0
Says behavior shows Done taken written reading = Ends behavior shows Done taken written reading.at_end
Says behavior shows Words taken written reading = ⊥
Says behavior shows Header taken written reading =
    Halts behavior Header taken written reading ⊎ Ends behavior shows Header taken written reading.at_end
Says behavior shows Refused taken written reading = Ends behavior shows Refused taken written reading.at_end
Says behavior shows ReadFault taken written reading = GoesOn behavior taken written
Says behavior shows WriteFault taken written reading = BeginsOutput behavior taken written reading
Says behavior shows Memory taken written reading = BeginsOutput behavior taken written reading
Says behavior shows TooLong taken written reading =
    Halts behavior TooLong taken written reading ⊎ Oversteps behavior taken written reading
Says behavior shows NotCertified taken written reading =
    Halts behavior NotCertified taken written reading ⊎ Ends behavior shows NotCertified taken written reading.at_end

-- which reads failed: where the status says so one, which was the last call of the source, and else none
abbrev pub FaultsOfSource : {S : Type 0} → (S → Option (List ℕ)) → (S → ℕ) → (S → ℕ) → Status → S → S → Type 0
FaultsOfSource left faults calls ReadFault before now = LastFails left faults calls before now
FaultsOfSource left faults calls _ before now = faults now ≡ faults before

-- which writes failed: where the status says so one, which was the last call of the sink, and else none
abbrev pub FaultsOfSink : {K : Type 0} → (K → Option (List ℕ)) → (K → ℕ) → (K → ℕ) → Status → K → K → Type 0
FaultsOfSink held faults calls WriteFault before now = LastFails held faults calls before now
FaultsOfSink held faults calls _ before now = faults now ≡ faults before

-- a command took bytes from its source and wrote bytes to its sink, and its status says what they are and which calls
-- failed. A source tells what is left and a sink what was written, and each how many calls of it failed and were made.
-- Of a source or a sink that tells no bytes nothing is said but the calls, and what is said of a device at a call holds
-- of the real one since a command is generic in both
pub record TakesAndWrites {S K : Type 0} (left : S → Option (List ℕ)) (read_faults read_calls : S → ℕ)
    (held : K → Option (List ℕ)) (write_faults write_calls : K → ℕ) (src src' : S) (out out' : K) (status : Status)
    (says : Status → List ℕ → List ℕ → Reading → Type 0) : Type 0 where
  pub taken : List ℕ
  pub written : List ℕ
  pub consumes : Consumes (left src) (left src') taken
  pub appends : Appends (held out) (held out') written
  pub answer : says status taken written (reading_of left read_calls src src')
  pub reads : FaultsOfSource left read_faults read_calls status src src'
  pub writes : FaultsOfSink held write_faults write_calls status out out'
