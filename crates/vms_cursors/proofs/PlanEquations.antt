-- Plans that are put together in another way and are the same, and what holds of one then holds of the other.
use Rattle.std.proofs.Common.{◌≡◌, [], ◌∷◌, List, refl, ap, sym, subst}
use Rattle.std.proofs.Math.Path.{fun_ext}
use Rattle.std.specs.Prelude.{IfSome, None, Option, Some}
use Rattle.vms_calls.specs.Common.{Step}
use Rattle.vms_plans.specs.declared.due_steps.DueStep.{DueStep}
use Rattle.vms_plans.specs.declared.due_steps.DueStep.TheVariants.{Makes}
use Rattle.vms_plans.specs.Common.{Plan, and_then, asks, ends, makes_all, refuses, waits}
use Rattle.vms_cursors.specs.Cursors.{GoesOn, HasEnded, IsDue, IsSame, Stops}

pub and_then-assoc : {A B C : Type 0} (plan : Plan A) (f : A → Plan B) (g : B → Plan C)
    → and_then (and_then plan f) g ≡ and_then plan (λ a. and_then (f a) g)
and_then-assoc (ends a) f g = refl
and_then-assoc refuses f g = refl
and_then-assoc (waits due next) f g = ap (waits due) (fun_ext (λ step. and_then-assoc (next step) f g))
and_then-assoc (asks Allows next) f g =
    ap (asks Allows) (fun_ext (λ t. fun_ext (λ usual. and_then-assoc (next t usual) f g)))

pub and_then-makes_all : {A B : Type 0} (ks : List Step) (plan : Plan A) (f : A → Plan B)
    → and_then (makes_all ks plan) f ≡ makes_all ks (and_then plan f)
and_then-makes_all [] plan f = refl
and_then-makes_all (k ∷ ks) plan f = ap (waits (Makes k)) (fun_ext (λ made. and_then-makes_all ks plan f))

module _ {A : Type 0} where
  pub goes-along : (plan other : Plan A) (step : Step) (later next : Plan A) → other ≡ plan → later ≡ next
      → GoesOn plan step later → GoesOn other step next
  goes-along plan other step later next same_plan same_later goes =
      subst (λ x. GoesOn x step next) (sym same_plan) (subst (λ x. GoesOn plan step x) same_later goes)

  pub stops-along : (plan other : Plan A) (step : Step) → other ≡ plan → Stops plan step → Stops other step
  stops-along plan other step same stops = subst (λ x. Stops x step) (sym same) stops

  pub due-along : (plan other : Plan A) (due : DueStep) → other ≡ plan → IsDue plan due → IsDue other due
  due-along plan other due same is = subst (λ x. IsDue x due) (sym same) is

  pub ended-along : (plan other : Plan A) (a : A) → other ≡ plan → HasEnded plan a → HasEnded other a
  ended-along plan other a same ended = subst (λ x. HasEnded x a) (sym same) ended

  -- the position after a step, if there is one
  pub some-along : {X : Type 0} (plan other : Plan A) (step : Step) (at : X → Plan A) → other ≡ plan
      → (later : Option X) → IfSome later (λ x. GoesOn plan step (at x))
      → IfSome later (λ x. GoesOn other step (at x))
  some-along plan other step at same None is = is
  some-along plan other step at same (Some x) goes = goes-along plan other step (at x) (at x) same refl goes

  pub some_due-along : (plan other : Plan A) → other ≡ plan → (due : Option DueStep)
      → IfSome due (λ d. IsDue plan d) → IfSome due (λ d. IsDue other d)
  some_due-along plan other same None is = is
  some_due-along plan other same (Some d) is = due-along plan other d same is

  -- and so do plans that have the same runs
  pub same-both : (plan other last : Plan A) → IsSame plan other → IsSame other last → IsSame plan last
  same-both plan other last first second = λ steps answer. (
    (λ run. (second steps answer).0 ((first steps answer).0 run)),
    (λ run. (first steps answer).1 ((second steps answer).1 run)),
  )

  pub same-goes : (plan other : Plan A) (step : Step) (later : Plan A) → IsSame plan other → GoesOn other step later
      → GoesOn plan step later
  same-goes plan other step later same goes = λ steps answer. (
    (λ run. (goes steps answer).0 ((same (step ∷ steps) answer).0 run)),
    (λ run. (same (step ∷ steps) answer).1 ((goes steps answer).1 run)),
  )

  pub same-stops : (plan other : Plan A) (step : Step) → IsSame plan other → Stops other step → Stops plan step
  same-stops plan other step same stops = λ steps answer run.
      stops steps answer ((same (step ∷ steps) answer).0 run)

  pub same-due : (plan other : Plan A) (due : DueStep) → IsSame plan other → IsDue other due → IsDue plan due
  same-due plan other due same is = (
    (λ step steps answer run. is.0 step steps answer ((same (step ∷ steps) answer).0 run)),
    (λ answer run. is.1 answer ((same [] answer).0 run)),
  )

  pub same-ended : (plan other : Plan A) (a : A) → IsSame plan other → HasEnded other a → HasEnded plan a
  same-ended plan other a same ended = (same [] a).1 ended
