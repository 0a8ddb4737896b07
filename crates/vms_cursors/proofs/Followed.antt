-- A plan, and then another that goes by its answer, or by that and by the history after its steps.
use Rattle.std.proofs.Common.{◌≡◌, ℕ, Bool, true, false, List, [], ◌∷◌, ◌++◌, refl, sym, ap, subst, ◌∙◌}
use Rattle.std.specs.Prelude.{IfSome, None, Option, Some}
use Rattle.vms_calls.specs.Common.{History, Step, after}
use Rattle.vms_plans.specs.declared.due_steps.DueStep.{DueStep}
use Rattle.vms_plans.specs.Common.{Plan, Runs, and_then, asks, either, ends, makes_all, recorded, refuses, waits}
use Rattle.vms_plans.proofs.PlanLaws.{Splits, runs-and_then, runs-recorded, splits-and_then, told-recorded}
use Rattle.vms_cursors.specs.Cursors.{GoesOn, HasEnded, IsDue, IsSame, IsUnended, Stops}

-- a plan that asks no rule now
abbrev pub AsksNone : {A : Type 0} → Plan A → Type 0
AsksNone (ends a) = Unit {0}
AsksNone refuses = Unit {0}
AsksNone (waits due next) = Unit {0}
AsksNone (asks Allows next) = ⊥

-- where it has ended, it is the end
pub ended-is : {A : Type 0} (plan : Plan A) (a : A) → AsksNone plan → HasEnded plan a → plan ≡ ends a
ended-is (ends x) a none run = ap ends run
ended-is refuses a none run = absurd run
ended-is (waits due next) a none run = absurd run
ended-is (asks Allows next) a none run = absurd none

pub none-and_then : {A B : Type 0} (plan : Plan A) (more : A → Plan B) → AsksNone plan
    → ((a : A) → AsksNone (more a)) → AsksNone (and_then plan more)
none-and_then (ends a) more here later = later a
none-and_then refuses more here later = (tt {0})
none-and_then (waits due next) more here later = (tt {0})
none-and_then (asks Allows next) more here later = here

pub none-makes_all : {A : Type 0} (ks : List Step) (plan : Plan A) → AsksNone plan → AsksNone (makes_all ks plan)
none-makes_all [] plan here = here
none-makes_all (k ∷ ks) plan here = (tt {0})

pub none-recorded : {A : Type 0} (p : ℕ) (h : History) (plan : Plan A) → AsksNone plan
    → AsksNone (recorded p h plan)
none-recorded p h (ends a) here = (tt {0})
none-recorded p h refuses here = (tt {0})
none-recorded p h (waits due next) here = (tt {0})
none-recorded p h (asks Allows next) here = here

pub either-followed : {A B : Type 0} (b : Bool) (plan other : Plan A) (more : A → Plan B)
    → and_then (either b plan other) more ≡ either b (and_then plan more) (and_then other more)
either-followed true plan other more = refl
either-followed false plan other more = refl

module _ {A B : Type 0} (plan : Plan A) (more : A → Plan B) where
  abbrev whole : Plan B
  whole = and_then plan more

  pub followed-is : (a : A) → AsksNone plan → HasEnded plan a → whole ≡ more a
  followed-is a none ended = ap (λ x. and_then x more) (ended-is plan a none ended)

  pub followed-ended : (a : A) (b : B) → HasEnded plan a → HasEnded (more a) b → HasEnded whole b
  followed-ended a b ended later = runs-and_then plan more [] [] a b ended later

  pub followed-same : (other : Plan A) → IsSame plan other → IsSame whole (and_then other more)
  followed-same other same steps b = (
    (λ run. let parts = splits-and_then plan more steps b run in
        subst (λ x. Runs (and_then other more) x b) (sym parts.in_order)
        (runs-and_then other more parts.first parts.rest parts.answer b
        ((same parts.first parts.answer).0 parts.run) parts.later)),
    (λ run. let parts = splits-and_then other more steps b run in
        subst (λ x. Runs whole x b) (sym parts.in_order)
        (runs-and_then plan more parts.first parts.rest parts.answer b
        ((same parts.first parts.answer).1 parts.run) parts.later)),
  )

  -- the first plan has not ended
  module _ (unended : IsUnended plan) where
    begun : (step : Step) (steps : List Step) (b : B) (parts : Splits plan more (step ∷ steps) b)
        → (first : List Step) → first ≡ parts.first
        → (ks : List Step) × (parts.first ≡ step ∷ ks) × (steps ≡ ks ++ parts.rest)
    begun step steps b parts [] is = absurd (unended parts.answer
        (subst (λ x. Runs plan x parts.answer) (sym is) parts.run))
    begun step steps b parts (k ∷ ks) is =
        let whole_is : step ∷ steps ≡ k ∷ (ks ++ parts.rest) =
        parts.in_order ∙ ap (λ x. x ++ parts.rest) (sym is) in
        let same : k ≡ step = cc in
        let rest : steps ≡ ks ++ parts.rest = cc in
        (ks, sym is ∙ ap (λ x. x ∷ ks) same, rest)

    pub followed-unended : IsUnended whole
    followed-unended b run =
        let parts = splits-and_then plan more [] b run in
        unended parts.answer (subst (λ x. Runs plan x parts.answer)
        (nothing parts.first parts.rest parts.in_order) parts.run)
      where
        nothing : (first rest : List Step) → [] ≡ first ++ rest → first ≡ []
        nothing [] rest is = refl
        nothing (k ∷ ks) rest is = absurd cc

    pub followed-due : (due : DueStep) → IsDue plan due → IsDue whole due
    followed-due due is = (
      (λ step steps b run. let parts = splits-and_then plan more (step ∷ steps) b run in
          let found = begun step steps b parts parts.first refl in
          is.0 step found.0 parts.answer (subst (λ x. Runs plan x parts.answer) found.1 parts.run)),
      followed-unended,
    )

    pub followed-stops : (step : Step) → Stops plan step → Stops whole step
    followed-stops step stops steps b run =
        let parts = splits-and_then plan more (step ∷ steps) b run in
        let found = begun step steps b parts parts.first refl in
        stops found.0 parts.answer (subst (λ x. Runs plan x parts.answer) found.1 parts.run)

    pub followed-goes : (step : Step) (later : Plan A) → GoesOn plan step later
        → GoesOn whole step (and_then later more)
    followed-goes step later goes steps b = (
      (λ run. let parts = splits-and_then plan more (step ∷ steps) b run in
          let found = begun step steps b parts parts.first refl in
          subst (λ x. Runs (and_then later more) x b) (sym found.2)
          (runs-and_then later more found.0 parts.rest parts.answer b
          ((goes found.0 parts.answer).0 (subst (λ x. Runs plan x parts.answer) found.1 parts.run)) parts.later)),
      (λ run. let parts = splits-and_then later more steps b run in
          subst (λ x. Runs whole (step ∷ x) b) (sym parts.in_order)
          (runs-and_then plan more (step ∷ parts.first) parts.rest parts.answer b
          ((goes parts.first parts.answer).1 parts.run) parts.later)),
    )

pub some_followed-due : {A B : Type 0} (plan : Plan A) (more : A → Plan B) (due : Option DueStep)
    → IfSome due (λ d. IsDue plan d) → IfSome due (λ d. IsDue (and_then plan more) d)
some_followed-due plan more None is = is
some_followed-due plan more (Some d) is = followed-due plan more is.1 d is

-- a plan with the history after its steps
module _ {A : Type 0} (p : ℕ) (h : History) (plan : Plan A) where
  abbrev kept : Plan (A × History)
  kept = recorded p h plan

  pub recorded-is : (a : A) → AsksNone plan → HasEnded plan a → kept ≡ ends (a, h)
  recorded-is a none ended = ap (recorded p h) (ended-is plan a none ended)

  pub recorded-same : (other : Plan A) → IsSame plan other → IsSame kept (recorded p h other)
  recorded-same other same steps found = (
    (λ run. let told = told-recorded p plan h steps found run in
        subst (λ x. Runs (recorded p h other) steps (found.0, x)) (sym told.1)
        (runs-recorded p other h steps found.0 ((same steps found.0).0 told.0))),
    (λ run. let told = told-recorded p other h steps found run in
        subst (λ x. Runs kept steps (found.0, x)) (sym told.1)
        (runs-recorded p plan h steps found.0 ((same steps found.0).1 told.0))),
  )

  pub recorded-unended : IsUnended plan → IsUnended kept
  recorded-unended unended found run = unended found.0 (told-recorded p plan h [] found run).0

  pub recorded-due : (due : DueStep) → IsDue plan due → IsDue kept due
  recorded-due due is = (
    (λ step steps found run. is.0 step steps found.0 (told-recorded p plan h (step ∷ steps) found run).0),
    recorded-unended is.1,
  )

  pub recorded-stops : (step : Step) → Stops plan step → Stops kept step
  recorded-stops step stops steps found run =
      stops steps found.0 (told-recorded p plan h (step ∷ steps) found run).0

  pub recorded-goes : (step : Step) (later : Plan A) → GoesOn plan step later
      → GoesOn kept step (recorded p (after p (step ∷ []) h) later)
  recorded-goes step later goes steps found = (
    (λ run. let told = told-recorded p plan h (step ∷ steps) found run in
        subst (λ x. Runs (recorded p (after p (step ∷ []) h) later) steps (found.0, x)) (sym told.1)
        (runs-recorded p later (after p (step ∷ []) h) steps found.0 ((goes steps found.0).0 told.0))),
    (λ run. let told = told-recorded p later (after p (step ∷ []) h) steps found run in
        subst (λ x. Runs kept (step ∷ steps) (found.0, x)) (sym told.1)
        (runs-recorded p plan h (step ∷ steps) found.0 ((goes steps found.0).1 told.0))),
  )
