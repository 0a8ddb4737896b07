-- Commands that make no phase.
use Rattle.std.specs.Prelude.{◌≡◌, ℕ, false, List, [], Option, None}
use Rattle.vms_stream.specs.Answers.{Says}
use Rattle.vms_stream.specs.Behaviors.{Behavior}
use Rattle.vms_stream.specs.declared.statuses.Status.{Status}
use Rattle.vms_stream.specs.PhasedBehaviors.{PhasedBehavior}
use Rattle.vms_stream.specs.PhasedAnswers.{SaysPhased}
use Rattle.vms_stream.specs.Readings.{reading_of}
use Rattle.vms_stream.specs.Waiting.{IsAsking, LineTexts, Text}
use Rattle.vms_stream.specs.Waiting.Text.{Plain, Asks}

-- no phase ends, whatever the lines are
pub record MakesNoPhase {S O : Type 0} (phased : PhasedBehavior S O) : Type 0 where
  pub lines : (s : S) (line : List ℕ) → phased.ends_phase s line ≡ false
  pub last : (s : S) → phased.ends_last s ≡ false

-- the behavior without phases
abbrev pub plain : {S O : Type 0} → PhasedBehavior S O → Behavior S
plain phased = record {
  start = phased.start;
  next = λ s line. phased.next s line None;
  prints = λ s line. phased.prints s line None;
  halts = λ s line. phased.halts s line None;
  may_halt = λ s line. phased.may_halt s line None;
  last = λ s. phased.last s None;
  ends = λ s. phased.ends s None;
  may_end = λ s. phased.may_end s None;
}

-- a command that makes no phase says what its plain behavior says
abbrev pub SaysPlainly : {S O R : Type 0} → PhasedBehavior S O → (S → Option O → Type 0) → (R → Option (List ℕ))
    → (R → ℕ) → Type 0
SaysPlainly {S} {O} {R} phased shows left calls = MakesNoPhase phased →
    (outcomes : List O) (status : Status) (taken written : List ℕ) (src src' : R) →
    SaysPhased phased shows outcomes status taken written (reading_of left calls src src') →
    Says (plain phased) (λ s. shows s None) status taken written (reading_of left calls src src')

-- lines that have plain texts alone, and no phase ends
pub record AskNothing {S O : Type 0} (texts : LineTexts S O) : Type 0 where
  pub lines : (s : S) (line : List ℕ) → texts.ends_phase s line ≡ false
  pub plain_text : (s : S) (line : List ℕ) → IsAsking (texts.text s line) → ⊥
  pub last : (s : S) → texts.ends_last s ≡ false

-- what a plain text prints
abbrev pub plain_bytes : {O : Type 0} → Text O → List ℕ
plain_bytes (Plain bytes) = bytes
plain_bytes (Asks text) = []

-- the behavior of a command that asks for nothing: each line prints its text
abbrev pub plainly : {S O : Type 0} → LineTexts S O → Behavior S
plainly texts = record {
  start = texts.start;
  next = λ s line. texts.next s line None;
  prints = λ s line. plain_bytes (texts.text s line);
  halts = texts.halts;
  may_halt = texts.may_halt;
  last = λ s. plain_bytes (texts.last s);
  ends = λ s. texts.ends s None;
  may_end = λ s. texts.may_end s None;
}
