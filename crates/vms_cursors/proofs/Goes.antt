-- For other crates too: how a cursor goes on along a plan that waits for a step.
use Rattle.std.proofs.Common.{◌≡◌, [], ◌∷◌, subst}
use Rattle.vms_calls.specs.Common.{Step}
use Rattle.vms_plans.specs.declared.due_steps.DueStep.{DueStep}
use Rattle.vms_plans.specs.Common.{Fits, Plan, Runs, and_then, ends, waits}
use Rattle.vms_plans.proofs.PlanLaws.{runs-answering, told-answering}
use Rattle.vms_cursors.specs.Cursors.{GoesOn, HasEnded, IsDue, IsSame, Stops}

pub waits-due : {A : Type 0} (due : DueStep) (next : Step → Plan A) → IsDue (waits due next) due
waits-due due next = ((λ step steps answer run. run.0), (λ answer run. run))

-- told is the step, in the form in which the plan reads it
pub waits-goes : {A : Type 0} (due : DueStep) (next : Step → Plan A) (told step : Step) → Fits due told → told ≡ step
    → GoesOn (waits due next) step (next told)
waits-goes due next told step fits same =
    subst (λ s. GoesOn (waits due next) s (next told)) same (λ steps answer. ((λ run. run.1), (λ run. (fits, run))))

-- where what follows depends on the step in another way too
pub waits-goes_to : {A : Type 0} (due : DueStep) (next : Step → Plan A) (told step : Step) (later : Step → Plan A)
    → Fits due told → told ≡ step → next told ≡ later told → GoesOn (waits due next) step (later step)
waits-goes_to due next told step later fits same is =
    subst (λ s. GoesOn (waits due next) s (later s)) same
    (subst (λ x. GoesOn (waits due next) told x) is (λ steps answer. ((λ run. run.1), (λ run. (fits, run)))))

pub waits-stops : {A : Type 0} (due : DueStep) (next : Step → Plan A) (step : Step) → (Fits due step → ⊥)
    → Stops (waits due next) step
waits-stops due next step other = λ steps answer run. other run.0

-- plans that are the same have the same runs
pub same-runs : {A : Type 0} (plan other : Plan A) → plan ≡ other → IsSame plan other
same-runs plan other same = subst (λ x. IsSame plan x) same (λ steps answer. ((λ run. run), (λ run. run)))

pub ends-stops : {A : Type 0} (a : A) (step : Step) → Stops (ends a) step
ends-stops a step = λ steps answer run. run

-- a plan whose answer is told in other words goes on as the plan does
module _ {A B : Type 0} (tell : A → B) where
  abbrev told : Plan A → Plan B
  told plan = and_then plan (λ x. ends (tell x))

  pub answering-goes : (plan later : Plan A) (step : Step) → GoesOn plan step later
      → GoesOn (told plan) step (told later)
  answering-goes plan later step goes steps b = (
    (λ run. let found = told-answering plan tell (step ∷ steps) b run in
        subst (Runs (told later) steps) found.2
        (runs-answering later tell steps found.0 ((goes steps found.0).0 found.1))),
    (λ run. let found = told-answering later tell steps b run in
        subst (Runs (told plan) (step ∷ steps)) found.2
        (runs-answering plan tell (step ∷ steps) found.0 ((goes steps found.0).1 found.1))),
  )

  pub answering-stops : (plan : Plan A) (step : Step) → Stops plan step → Stops (told plan) step
  answering-stops plan step stops steps b run =
      let found = told-answering plan tell (step ∷ steps) b run in stops steps found.0 found.1

  pub answering-same : (plan other : Plan A) → IsSame plan other → IsSame (told plan) (told other)
  answering-same plan other same steps b = (
    (λ run. let found = told-answering plan tell steps b run in
        subst (Runs (told other) steps) found.2
        (runs-answering other tell steps found.0 ((same steps found.0).0 found.1))),
    (λ run. let found = told-answering other tell steps b run in
        subst (Runs (told plan) steps) found.2
        (runs-answering plan tell steps found.0 ((same steps found.0).1 found.1))),
  )

  pub answering-due : (plan : Plan A) (due : DueStep) → IsDue plan due → IsDue (told plan) due
  answering-due plan due is = (
    (λ step steps b run. let found = told-answering plan tell (step ∷ steps) b run in is.0 step steps found.0 found.1),
    (λ b run. let found = told-answering plan tell [] b run in is.1 found.0 found.1),
  )

  pub answering-ended : (plan : Plan A) (a : A) → HasEnded plan a → HasEnded (told plan) (tell a)
  answering-ended plan a ended = runs-answering plan tell [] a ended
