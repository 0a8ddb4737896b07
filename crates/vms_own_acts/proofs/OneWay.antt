-- A plan by rules that are functions goes one way: what ends it is not the beginning of something else that ends it.
use Rattle.std.proofs.Common.{◌≡◌, ℕ, Bool, true, false, List, [], ◌∷◌, ◌++◌, refl, sym, subst, ◌∙◌}
use Rattle.vms_core.specs.Pages.{History}
use Rattle.vms_world.specs.Common.{Step, after}
use Rattle.vms_plans.specs.Common.{Plan, Runs, and_then, asks, either, ends, makes_all, recorded, refuses, waits}

-- where a rule is asked, it answers two thresholds and no others
abbrev pub IsOneWay : {A : Type 0} → Plan A → Type 0
IsOneWay (ends a) = Unit {0}
IsOneWay refuses = Unit {0}
IsOneWay (waits due next) = (step : Step) → IsOneWay (next step)
IsOneWay (asks Allows next) =
    ((t usual u v : ℕ) → Allows t usual → Allows u v → (t ≡ u) × (usual ≡ v))
    × ((t usual : ℕ) → IsOneWay (next t usual))

pub nothing-follows : {A : Type 0} (plan : Plan A) → IsOneWay plan → (first more : List Step) (a b : A)
    → Runs plan first a → Runs plan (first ++ more) b → (more ≡ []) × (a ≡ b)
nothing-follows (ends x) one [] [] a b run other = (refl, sym run ∙ other)
nothing-follows (ends x) one [] (m ∷ more) a b run other = absurd other
nothing-follows (ends x) one (k ∷ ks) more a b run other = absurd run
nothing-follows refuses one first more a b run other = absurd run
nothing-follows (waits due next) one [] more a b run other = absurd run
nothing-follows (waits due next) one (k ∷ ks) more a b run other =
    nothing-follows (next k) (one k) ks more a b run.1 other.1
nothing-follows (asks Allows next) one first more a b run other =
    let same = one.0 run.0 run.1 other.0 other.1 run.2 other.2 in
    let moved : Runs (next run.0 run.1) (first ++ more) b =
    subst (λ t. Runs (next t run.1) (first ++ more) b) (sym same.0)
    (subst (λ u. Runs (next other.0 u) (first ++ more) b) (sym same.1) other.3) in
    nothing-follows (next run.0 run.1) (one.1 run.0 run.1) first more a b run.3 moved

pub one-and_then : {A B : Type 0} (plan : Plan A) (more : A → Plan B) → IsOneWay plan → ((a : A) → IsOneWay (more a))
    → IsOneWay (and_then plan more)
one-and_then (ends a) more here later = later a
one-and_then refuses more here later = here
one-and_then (waits due next) more here later = λ step. one-and_then (next step) more (here step) later
one-and_then (asks Allows next) more here later =
    (here.0, λ t usual. one-and_then (next t usual) more (here.1 t usual) later)

pub one-recorded : {A : Type 0} (p : ℕ) (h : History) (plan : Plan A) → IsOneWay plan → IsOneWay (recorded p h plan)
one-recorded p h (ends a) here = here
one-recorded p h refuses here = here
one-recorded p h (waits due next) here = λ step. one-recorded p (after p (step ∷ []) h) (next step) (here step)
one-recorded p h (asks Allows next) here =
    (here.0, λ t usual. one-recorded p h (next t usual) (here.1 t usual))

pub one-makes_all : {A : Type 0} (ks : List Step) (plan : Plan A) → IsOneWay plan → IsOneWay (makes_all ks plan)
one-makes_all [] plan here = here
one-makes_all (k ∷ ks) plan here = λ step. one-makes_all ks plan here

pub one-either : {A : Type 0} (b : Bool) (plan other : Plan A) → IsOneWay plan → IsOneWay other
    → IsOneWay (either b plan other)
one-either true plan other here there = here
one-either false plan other here there = there
