-- A pass makes steps one after another while others act: what it knows in between, what it has made, and that it may
-- make the next step.
use Rattle.std.specs.Prelude.{◌≡◌, ℕ, true, List, ◌∷◌, ◌++◌}
use Rattle.vms_history.specs.declared.events.Event.{Event}
use Rattle.vms_history.specs.Events.{Extends, own, after}
use Rattle.vms_history.specs.Legal.{Machine, IsLegal}
use Rattle.vms_history.specs.Passes.{lives_in}

-- the history went on from an earlier one with steps of others: pass p lives in both and made none since
pub record GoesOnWithout {F K S : Type 0} (machine : Machine F K S) (facts : F) (later earlier : List (Event K))
    (p : ℕ) : Type 0 where
  pub legal : IsLegal machine facts later
  pub extends : Extends later earlier
  pub lived : lives_in machine.role earlier p ≡ true
  pub lives : lives_in machine.role later p ≡ true
  pub own_same : own later p ≡ own earlier p

-- pass p lives and has made these steps since the earlier history, the oldest first, whatever others did in between
pub record HasMade {F K S : Type 0} (machine : Machine F K S) (facts : F) (later earlier : List (Event K)) (p : ℕ)
    (steps : List K) : Type 0 where
  pub legal : IsLegal machine facts later
  pub extends : Extends later earlier
  pub lived : lives_in machine.role earlier p ≡ true
  pub lives : lives_in machine.role later p ≡ true
  pub made : own later p ≡ after p steps (own earlier p)

-- `Tells` says of a step that the numbers which it names stand when it is made
module _ {F K S : Type 0} (machine : Machine F K S) (Tells : F → List (Event K) → ℕ → K → Type 0) where
  -- pass p may make these steps: once it has made some of them, and whatever others did in between, the next one may be
  -- made if it tells what stands, and the history with it is legal
  abbrev pub MayMake : F → ℕ → List (Event K) → List K → Type 0
  MayMake facts p earlier steps = (later : List (Event K)) (done : List K) (step : K) (rest : List K) →
      steps ≡ done ++ (step ∷ rest) → HasMade machine facts later earlier p done → Tells facts later p step →
      IsLegal machine facts (record { caller = p; step = step } ∷ later)

  -- the same of a call of which the first steps alone are known: whichever steps may still follow, the next one may be
  -- made if it tells what stands
  abbrev pub MayBegin : F → ℕ → List (Event K) → (List K → Type 0) → Type 0
  MayBegin facts p earlier IsCall = (later : List (Event K)) (done : List K) (step : K) (rest : List K) →
      IsCall (done ++ (step ∷ rest)) → HasMade machine facts later earlier p done → Tells facts later p step →
      IsLegal machine facts (record { caller = p; step = step } ∷ later)
