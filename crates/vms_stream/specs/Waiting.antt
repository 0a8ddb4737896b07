-- A command that gives each line a text of its own, of which some are known only with the outcome of their phase.
use Rattle.std.specs.Prelude.{ℕ, Bool, false, List, [], ◌∷◌, ◌++◌, flat_map, Option, Some, None}
use Rattle.vms_stream.specs.declared.statuses.Status.{Status}
use Rattle.vms_stream.specs.Behaviors.{MayEnd, MayHalt}
use Rattle.vms_stream.specs.PhasedBehaviors.{PhasedBehavior}

-- the text of a line: plain, or one that asks for the outcome of the phase that is open there or ends there
pub data Text (O : Type 0) : Type 0 where
  Plain : List ℕ → Text O
  Asks : (O → List ℕ) → Text O

abbrev pub IsAsking : {O : Type 0} → Text O → Type 0
IsAsking (Plain bytes) = ⊥
IsAsking (Asks text) = Unit {0}

-- a text with the outcome
abbrev pub spelled : {O : Type 0} → O → Text O → List ℕ
spelled outcome (Plain bytes) = bytes
spelled outcome (Asks text) = text outcome

-- a command whose lines have a text each. No phase ends at a line that stops the command
pub record LineTexts (S O : Type 0) : Type 1 where
  -- before the first line
  pub start : S
  -- whether a phase ends at the line, and which outcomes it may have
  pub ends_phase : S → List ℕ → Bool
  pub Allows : S → List ℕ → O → Type 0
  -- after the line, by the outcome of the phase that ends there
  pub next : S → List ℕ → Option O → S
  -- the text of the line
  pub text : S → List ℕ → Text O
  -- the status with which the command stops at the line, if it does
  pub halts : S → List ℕ → Option Status
  pub may_halt : (s : S) (line : List ℕ) → MayHalt (halts s line)
  -- whether a phase ends at the end of the input, and which outcomes it may have
  pub ends_last : S → Bool
  pub AllowsLast : S → O → Type 0
  -- the text there
  pub last : S → Text O
  -- the status with which it ends there
  pub ends : S → Option O → Status
  pub may_end : (s : S) (given : Option O) → MayEnd (ends s given)

-- whether a phase ends at a line
abbrev pub unless_stopped : Option Status → Bool → Bool
unless_stopped None ends = ends
unless_stopped (Some halt) ends = false

abbrev pub ends_at : {S O : Type 0} → LineTexts S O → S → List ℕ → Bool
ends_at texts s line = unless_stopped (texts.halts s line) (texts.ends_phase s line)

-- between two lines of the command: its state, and the texts that wait for the outcome of the open phase, or stand
-- after one that waits
pub record Waiting (S O : Type 0) : Type 0 where
  pub state : S
  pub waits : List (Text O)

-- what waits after a line at which no phase ends
abbrev pub waits_with : {O : Type 0} → List (Text O) → Text O → List (Text O)
waits_with [] (Plain bytes) = []
waits_with [] (Asks text) = Asks text ∷ []
waits_with (first ∷ waits) text = (first ∷ waits) ++ text ∷ []

-- what is printed at once: a plain text, where nothing waits
abbrev pub printed_now : {O : Type 0} → List (Text O) → Text O → List ℕ
printed_now [] (Plain bytes) = bytes
printed_now [] (Asks text) = []
printed_now (first ∷ waits) text = []

-- what is printed with an outcome, or without one
abbrev pub printed_with : {O : Type 0} → List (Text O) → Text O → Option O → List ℕ
printed_with waits text None = printed_now waits text
printed_with waits text (Some outcome) = flat_map (spelled outcome) waits ++ spelled outcome text

abbrev pub waits_after : {O : Type 0} → List (Text O) → Text O → Option O → List (Text O)
waits_after waits text None = waits_with waits text
waits_after waits text (Some outcome) = []

-- the command that prints what waits where a phase ends, and all else at once
abbrev pub waiting : {S O : Type 0} → LineTexts S O → PhasedBehavior (Waiting S O) O
waiting texts = record {
  start = record { state = texts.start; waits = [] };
  ends_phase = λ now line. ends_at texts now.state line;
  Allows = λ now line. texts.Allows now.state line;
  next = λ now line given. record {
    state = texts.next now.state line given;
    waits = waits_after now.waits (texts.text now.state line) given;
  };
  prints = λ now line given. printed_with now.waits (texts.text now.state line) given;
  halts = λ now line given. texts.halts now.state line;
  may_halt = λ now line given. texts.may_halt now.state line;
  ends_last = λ now. texts.ends_last now.state;
  AllowsLast = λ now. texts.AllowsLast now.state;
  last = λ now given. printed_with now.waits (texts.last now.state) given;
  ends = λ now given. texts.ends now.state given;
  may_end = λ now given. texts.may_end now.state given;
}
