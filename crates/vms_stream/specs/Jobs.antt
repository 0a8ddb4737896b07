-- What a job does at a line and at the end of its input, by its behavior and by the outcomes of the phases that it
-- made.
use Rattle.std.specs.Prelude.{◌≡◌, ℕ, Bool, true, List, [], ◌∷◌, ◌++◌, Option, Some, None, Result, IfOk}
use Rattle.vms_stream.specs.declared.statuses.Status.{Status}
use Rattle.vms_stream.specs.Behaviors.{Behavior, state_after, halted, printed}
use Rattle.vms_stream.specs.PhasedBehaviors.{PhasedBehavior, OutcomeSupply, Way, supply, with_outcomes}
use Rattle.vms_stream.specs.PhasedBehaviors.OutcomeSupply.{Gives, Lacks}
use Rattle.vms_stream.specs.PhasedBehaviors.Way.{On, Short}
use Rattle.vms_stream.specs.Leading.{OutcomesLead, UsedAtEnd}

-- a job took lines: it says whether one of them stops the command, and prints what they print; if none does, it
-- stands after them
pub record TakesLines {S : Type 0} (behavior : Behavior S) (stands : S → Type 0) (s : S) (lines : List (List ℕ))
    (halt : Option Status) (out out' : List ℕ) : Type 0 where
  pub halt_of : halt ≡ halted behavior s lines
  pub prints : out' ≡ out ++ printed behavior s lines
  pub stands_after : halt ≡ None → stands (state_after behavior s lines)

-- a job came to the end of its input, and shows this of its state
pub record Closes {S : Type 0} (behavior : Behavior S) (shows : S → Type 0) (s : S) (ending : Status)
    (out out' : List ℕ) : Type 0 where
  pub ends : ending ≡ behavior.ends s
  pub prints : out' ≡ out ++ behavior.last s
  pub shown : shows s

-- these outcomes were made after those that were made before. An engine may keep none
abbrev pub Grows : {O : Type 0} → Option (List O) → Option (List O) → List O → Type 0
Grows None made' outcomes = made' ≡ None
Grows (Some made) made' outcomes = made' ≡ Some (made ++ outcomes)

-- all outcomes are used, and the job stands in the state of the way
abbrev pub StandsOn : {S O : Type 0} → (S → Type 0) → Way S O → Type 0
StandsOn stands (On s left) = stands s × (left ≡ [])
StandsOn stands Short = ⊥

-- what is shown at the end of the input, where the phase that ends there has its outcome
abbrev pub shown_with : {S O : Type 0} → (S → Option O → Type 0) → S → OutcomeSupply O → Type 0
shown_with shows s (Gives given left) = shows s given
shown_with shows s Lacks = ⊥

-- what is shown at the end of a way
abbrev pub shown_on : {S O : Type 0} → PhasedBehavior S O → (S → Option O → Type 0) → Way S O → Type 0
shown_on phased shows (On s left) = shown_with shows s (supply (phased.ends_last s) left)
shown_on phased shows Short = ⊥

-- a job took a line, and made the phase that ends there, or failed. The outcomes that it made lead through the line
-- also where it failed
pub record TakesPhased {S O E : Type 0} (phased : PhasedBehavior S O) (stands stands' : S → Type 0)
    (made made' : Option (List O)) (line : List ℕ) (result : Result (Option Status) E) (out out' : List ℕ)
    : Type 0 where
  pub outcomes : List O
  pub grows : Grows made made' outcomes
  pub leads : (s : S) → stands s → OutcomesLead phased s outcomes (line ∷ [])
  pub goes : IfOk result (λ halt. (s : S) → stands s →
      TakesLines (with_outcomes phased outcomes) (StandsOn stands') (On s outcomes) (line ∷ []) halt out out')

-- a job came to the end of its input, and made the phase that ends there, or failed
pub record ClosesPhased {S O E : Type 0} (phased : PhasedBehavior S O) (stands : S → Type 0)
    (shows : S → Option O → Type 0) (made made' : Option (List O)) (result : Result Status E)
    (out out' : List ℕ) : Type 0 where
  pub outcomes : List O
  pub grows : Grows made made' outcomes
  pub leads : (s : S) → stands s → UsedAtEnd phased s outcomes
  pub goes : IfOk result (λ ending. (s : S) → stands s →
      Closes (with_outcomes phased outcomes) (shown_on phased shows) (On s outcomes) ending out out')

-- what a call makes that makes one phase at most
abbrev pub at_most_one : {O : Type 0} → Option O → List O
at_most_one None = []
at_most_one (Some outcome) = outcome ∷ []

-- where a phase ends it may have this outcome, or none where it couldn't be made
abbrev pub MayGive : {O : Type 0} → Bool → (O → Type 0) → Option O → Type 0
MayGive ends allows None = Unit {0}
MayGive ends allows (Some outcome) = (ends ≡ true) × allows outcome
