-- For other crates too: steps that lead from one state to another may be made in a row, and follow one another.
use Rattle.std.proofs.Common.{◌≡◌, ◌≢◌, ℕ, true, List, [], ◌∷◌, ◌++◌, Option, refl, sym, ap, subst, ◌∙◌, arith}
use Rattle.vms_base.specs.declared.ids.CpuId.{CpuId}
use Rattle.vms_history.specs.declared.events.Event.{Event}
use Rattle.vms_history.specs.Common.{Machine, IsLegal, state_after, HasMade, MayBegin, MayMake, lives_in, owner_in}
use Rattle.vms_history.specs.Common.{ByState, GoesOnTo, IsByState, LeadsOn}
use Rattle.vms_history.proofs.MadeSteps.{made-next, made-none}
use Rattle.vms_history.proofs.PassLaws.{live_is_given, owner_in-others}

-- steps in a row, and then further ones
pub LeadsOn-append : {K S : Type 0} (by : ByState K S) (who : Option CpuId) (first second : List K) (s t u : S)
    → LeadsOn by who first s t → LeadsOn by who second t u → LeadsOn by who (first ++ second) s u
LeadsOn-append by who [] second s t u same then = subst (λ x. LeadsOn by who second x u) (sym same) then
LeadsOn-append by who (step ∷ first) second s t u leads then =
    (leads.0, LeadsOn-append by who first second (by.effect who step s) t u leads.1 then)

module _ {F K S : Type 0} (machine : Machine F K S) (Tells : F → List (Event K) → ℕ → K → Type 0) (by : ByState K S)
    (is : IsByState machine Tells by) (facts : F) (p : ℕ) (who : Option CpuId) where
  -- the steps that are left go on, once those before them are made
  rest-goes_on : (earlier : List (Event K)) (done rest : List K) (later : List (Event K)) (next : S)
      → HasMade machine facts later earlier p done → MayMake machine Tells facts p earlier (done ++ rest)
      → owner_in machine.role later p ≡ who → LeadsOn by who rest (state_after machine facts later) next
      → GoesOnTo machine facts p rest later next
  rest-goes_on earlier done [] later next made may owns leads = record { legal = made.legal; state = leads }
  rest-goes_on earlier done (step ∷ rest) later next made may owns leads =
      let told = is.tells facts later p step
      (subst (λ o. by.Tells o (state_after machine facts later) step) (sym owns) leads.0) in
      let legal = may later done step rest refl made told in
      let given = live_is_given machine facts later p made.legal made.lives in
      let other : p ≢ 0 = λ main. let some = given.0 in absurd (omega arith) in
      let moved = ap (λ o. machine.effect facts o step (state_after machine facts later)) owns
      ∙ is.effect facts who step (state_after machine facts later) in
      let then = rest-goes_on earlier (done ++ step ∷ []) rest (record { caller = p; step = step } ∷ later) next
      (made-next machine facts later earlier p done step made legal)
      (subst (MayMake machine Tells facts p earlier) (regroup done step rest) may)
      (owner_in-others machine.role (record { caller = p; step = step }) later p other ∙ owns)
      (subst (λ s. LeadsOn by who rest s next) (sym moved) leads.1) in
      record { legal = then.legal; state = then.state }
    where
      regroup : (done : List K) (step : K) (rest : List K) → done ++ (step ∷ rest) ≡ (done ++ step ∷ []) ++ rest
      regroup [] step rest = refl
      regroup (first ∷ done) step rest = ap (λ steps. first ∷ steps) (regroup done step rest)

  pub steps-go_on : (h : List (Event K)) (steps : List K) (next : S) → IsLegal machine facts h
      → lives_in machine.role h p ≡ true → owner_in machine.role h p ≡ who
      → MayMake machine Tells facts p h steps → LeadsOn by who steps (state_after machine facts h) next
      → GoesOnTo machine facts p steps h next
  steps-go_on h steps next legal lives owns may leads =
      rest-goes_on h [] steps h next (made-none machine facts h p legal lives) may owns leads

  pub call-goes_on : (h : List (Event K)) (IsCall : List K → Type 0) (steps : List K) (next : S)
      → IsLegal machine facts h → lives_in machine.role h p ≡ true → owner_in machine.role h p ≡ who
      → MayBegin machine Tells facts p h IsCall → IsCall steps
      → LeadsOn by who steps (state_after machine facts h) next → GoesOnTo machine facts p steps h next
  call-goes_on h IsCall steps next legal lives owns may call leads = steps-go_on h steps next legal lives owns
      (λ later done step rest parts made tells. may later done step rest (subst IsCall parts call) made tells) leads
