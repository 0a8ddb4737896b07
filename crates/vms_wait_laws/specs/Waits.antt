-- Texts that are held back, and the phase for whose outcome they wait.
use Rattle.std.specs.Prelude.{◌≡◌, ℕ, true, false, List, [], None}
use Rattle.vms_stream.specs.Common.{IsAsking, LineTexts, Waiting, Way, On, Short, halted, state_after, waiting}
use Rattle.vms_stream.specs.Common.{with_outcomes}

-- outside a phase no text is held back. At the end of the input a phase ends exactly where one is open
abbrev pub HoldsBackNothing : {S O : Type 0} → LineTexts S O → Way (Waiting S O) O → Type 0
HoldsBackNothing texts (On now left) = texts.ends_last now.state ≡ false → now.waits ≡ []
HoldsBackNothing texts Short = Unit {0}

-- that holds after any lines at which the command doesn't stop, whatever outcomes its phases have
abbrev pub WaitInsidePhases : {S O : Type 0} → LineTexts S O → Type 0
WaitInsidePhases {S} {O} texts = (outcomes : List O) (lines : List (List ℕ)) →
    halted (with_outcomes (waiting texts) outcomes) (On (waiting texts).start outcomes) lines ≡ None →
    HoldsBackNothing texts
    (state_after (with_outcomes (waiting texts) outcomes) (On (waiting texts).start outcomes) lines)

-- lines ask only inside a phase: one is open after a line that asks, and stays open up to its end
pub record AskInsidePhases {S O : Type 0} (texts : LineTexts S O) : Type 0 where
  pub opens : (s : S) (line : List ℕ) → IsAsking (texts.text s line) → texts.ends_phase s line ≡ false →
      texts.ends_last (texts.next s line None) ≡ true
  pub stays : (s : S) (line : List ℕ) → texts.ends_last s ≡ true → texts.ends_phase s line ≡ false →
      texts.ends_last (texts.next s line None) ≡ true
