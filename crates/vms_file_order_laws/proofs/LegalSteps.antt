-- What a legal history says of the steps of a call that ends it, and of those that begin the call.
use Rattle.std.proofs.Common.{◌≡◌, ℕ, List, [], ◌∷◌, ◌++◌, subst, append_assoc}
use Rattle.vms_world.specs.Common.{Event, Machine, after}
use Rattle.vms_history.specs.Legal.{IsLegal, state_after}
use Rattle.vms_history.proofs.Common.{after-steps}

-- a history with an event of caller p more
abbrev pub with_step : {K : Type 0} → ℕ → K → List (Event K) → List (Event K)
with_step p k h = record { caller = p; step = k } ∷ h

module _ {F K S : Type 0} (machine : Machine F K S) (facts : F) (p : ℕ) where
  -- the history before these steps is legal
  pub legal_before : (steps : List K) (h : List (Event K)) → IsLegal machine facts (after p steps h)
      → IsLegal machine facts h
  legal_before [] h legal = legal
  legal_before (k ∷ steps) h legal = (legal_before steps (with_step p k h) legal).0

  -- the first of them met its condition
  pub met : (k : K) (steps : List K) (h : List (Event K)) → IsLegal machine facts (after p (k ∷ steps) h)
      → machine.Meets facts h (state_after machine facts h) p k
  met k steps h legal = (legal_before steps (with_step p k h) legal).2

  -- what follows the first of two lists of steps is legal after it
  pub legal_later : (first rest more : List K) (h : List (Event K))
      → IsLegal machine facts (after p ((first ++ rest) ++ more) h)
      → IsLegal machine facts (after p (rest ++ more) (after p first h))
  legal_later first rest more h legal =
      subst (IsLegal machine facts) (after-steps p first (rest ++ more) h)
      (subst (λ (steps : List K). IsLegal machine facts (after p steps h)) (append_assoc first rest more) legal)

  pub legal_first : (first rest more : List K) (h : List (Event K))
      → IsLegal machine facts (after p ((first ++ rest) ++ more) h)
      → IsLegal machine facts (after p (first ++ (rest ++ more)) h)
  legal_first first rest more h legal =
      subst (λ (steps : List K). IsLegal machine facts (after p steps h)) (append_assoc first rest more) legal

  pub legal_as : (a b more : List K) (h : List (Event K)) → a ≡ b → IsLegal machine facts (after p (a ++ more) h)
      → IsLegal machine facts (after p (b ++ more) h)
  legal_as a b more h same legal =
      subst (λ (steps : List K). IsLegal machine facts (after p (steps ++ more) h)) same legal
