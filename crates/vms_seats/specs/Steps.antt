-- What a call of a pass on one word makes: when it may, and what it has made.
use Rattle.std.specs.Prelude.{◌≡◌, ℕ, ◌<◌, ◌^◌, List, [], ◌∷◌, slice_index, slice_set}
use Rattle.vms_history.specs.declared.events.Event.{Event}
use Rattle.vms_history.specs.Common.{Machine, IsLegal, state_after, GoesOnWithout, HasMade}
use Rattle.vms_seats.specs.Passes.{Pass}

-- after this history pass p may make this step, and the word at this place, with the others as they are, then shows the
-- next state
pub record NextStep {F K S : Type 0} (machine : Machine F K S) (shown : F → S → List ℕ) (facts : F)
    (h : List (Event K)) (p place after : ℕ) (step : K) : Type 0 where
  pub legal : IsLegal machine facts (record { caller = p; step = step } ∷ h)
  pub shows : shown facts (state_after machine facts (record { caller = p; step = step } ∷ h))
      ≡ slice_set (shown facts (state_after machine facts h)) place after

-- whatever others have done since the pass looked, and whichever number it finds in the word, it may make the step
-- that is planned for that number, as the word becomes `change` of it
abbrev pub MayStep : {F K S : Type 0} → Machine F K S → (F → S → List ℕ) → Pass F K → ℕ → (ℕ → ℕ)
    → (ℕ → K) → Type 0
MayStep {F} {K} machine shown pass place change plan = (h : List (Event K)) (found : ℕ)
    → GoesOnWithout machine pass.facts h pass.seen pass.number → found < 2 ^ 64
    → slice_index (shown pass.facts (state_after machine pass.facts h)) place ≡ found
    → NextStep machine shown pass.facts h pass.number place (change found) (plan found)

-- pass p made one step: what others had done before it, and that the history ended with it
pub record MakesStep {F K S : Type 0} (machine : Machine F K S) (facts : F) (later earlier : List (Event K))
    (p : ℕ) (step : K) : Type 0 where
  pub before : List (Event K)
  pub others : GoesOnWithout machine facts before earlier p
  pub newest : later ≡ record { caller = p; step = step } ∷ before
  pub legal : IsLegal machine facts later

-- the pass has made these steps, the oldest first, whatever others did in between, and is the same pass
pub record Made {F K S : Type 0} (machine : Machine F K S) (new old : Pass F K) (steps : List K) : Type 0 where
  pub table : new.table ≡ old.table
  pub facts : new.facts ≡ old.facts
  pub number : new.number ≡ old.number
  pub cpu : new.cpu ≡ old.cpu
  pub made : HasMade machine old.facts new.seen old.seen old.number steps

-- the pass has made this one step
pub record MadeOne {F K S : Type 0} (machine : Machine F K S) (new old : Pass F K) (step : K) : Type 0 where
  pub all : Made machine new old (step ∷ [])
  pub at : MakesStep machine old.facts new.seen old.seen old.number step
