-- What a command says of the lines of its input.
use Rattle.std.specs.Prelude.{ℕ, List, [], ◌∷◌, ◌++◌, Option, Some, None}
use Rattle.vms_stream.specs.declared.statuses.Status.{Status}
use Rattle.vms_stream.specs.declared.statuses.Status.TheVariants.{Done, Header, NotCertified, Refused, TooLong}

-- a line stops a command where it refuses the header or is at fault in a written history, and where it exceeds a limit
abbrev pub MayHalt : Option Status → Type 0
MayHalt None = Unit {0}
MayHalt (Some Header) = Unit {0}
MayHalt (Some TooLong) = Unit {0}
MayHalt (Some NotCertified) = Unit {0}
MayHalt (Some _) = ⊥

-- how a command may end at the end of its input
abbrev pub MayEnd : Status → Type 0
MayEnd Done = Unit {0}
MayEnd Refused = Unit {0}
MayEnd Header = Unit {0}
MayEnd NotCertified = Unit {0}
MayEnd _ = ⊥

-- a command as its behavior from line to line, with a state between them
pub record Behavior (S : Type 0) : Type 0 where
  -- before the first line
  pub start : S
  -- after a line
  pub next : S → List ℕ → S
  -- what the line prints
  pub prints : S → List ℕ → List ℕ
  -- the status with which the command stops at the line, if it does
  pub halts : S → List ℕ → Option Status
  pub may_halt : (s : S) (line : List ℕ) → MayHalt (halts s line)
  -- what is printed at the end of the input
  pub last : S → List ℕ
  -- the status with which it ends there
  pub ends : S → Status
  pub may_end : (s : S) → MayEnd (ends s)

-- the state after these lines
abbrev pub state_after : {S : Type 0} → Behavior S → S → List (List ℕ) → S
state_after behavior s [] = s
state_after behavior s (line ∷ lines) = state_after behavior (behavior.next s line) lines

-- the first status, if there is one, and else the later one
abbrev pub first_halt : Option Status → Option Status → Option Status
first_halt (Some halt) later = Some halt
first_halt None later = later

-- the status with which the command stops at the first of these lines at which it does
abbrev pub halted : {S : Type 0} → Behavior S → S → List (List ℕ) → Option Status
halted behavior s [] = None
halted behavior s (line ∷ lines) = first_halt (behavior.halts s line) (halted behavior (behavior.next s line) lines)

-- what is printed from a line on: nothing after one that stops the command, and that one prints where it is refused or
-- at fault
abbrev pub printed_from : Option Status → List ℕ → List ℕ → List ℕ
printed_from None line later = line ++ later
printed_from (Some Header) line later = line
printed_from (Some NotCertified) line later = line
printed_from (Some _) line later = []

-- what these lines print
abbrev pub printed : {S : Type 0} → Behavior S → S → List (List ℕ) → List ℕ
printed behavior s [] = []
printed behavior s (line ∷ lines) =
    printed_from (behavior.halts s line) (behavior.prints s line) (printed behavior (behavior.next s line) lines)

-- what is printed after the lines: the last words, unless the command stopped
abbrev pub last_words : Option Status → List ℕ → List ℕ
last_words None words = words
last_words (Some halt) words = []

-- the whole output of a text of these lines
abbrev pub output : {S : Type 0} → Behavior S → List (List ℕ) → List ℕ
output behavior lines = printed behavior behavior.start lines
    ++ last_words (halted behavior behavior.start lines) (behavior.last (state_after behavior behavior.start lines))
