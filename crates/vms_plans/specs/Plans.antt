-- Plans: which step is due, whatever the steps before it told, and where they end with an answer.
use Rattle.std.specs.Prelude.{◌≡◌, ℕ, Bool, true, false, List, [], ◌∷◌, length}
use Rattle.vms_calls.specs.Common.{group_of, after, Step, LoadT, LoadD, Put, Miss, Take, LoadG, LoadS, LoadM, LoadO}
use Rattle.vms_calls.specs.Common.{LoadA, History, eight_zeros}
use Rattle.vms_plans.specs.declared.due_steps.DueStep.{DueStep}
use Rattle.vms_plans.specs.declared.due_steps.DueStep.TheVariants.{Makes, LoadsThreshold, LoadsGroup, Exchanges}
use Rattle.vms_plans.specs.declared.due_steps.DueStep.TheVariants.{ExchangesZeros, Takes, LoadsValue, LoadsSystem}
use Rattle.vms_plans.specs.declared.due_steps.DueStep.TheVariants.{LoadsMark, LoadsState, LoadsAcknowledged}

-- a plan of steps with an answer A: it ends, or it waits for a step that is due and goes on from it, or it goes by two
-- thresholds that a rule may answer. Where it refuses, no step and no end is right
pub data Plan (A : Type 0) : Type 1 where
  ends : A → Plan A
  refuses : Plan A
  waits : DueStep → (Step → Plan A) → Plan A
  asks : (ℕ → ℕ → Type 0) → (ℕ → ℕ → Plan A) → Plan A

-- a step is the one that is due
abbrev pub Fits : DueStep → Step → Type 0
Fits (Makes due) step = due ≡ step
Fits (LoadsThreshold g) (LoadT f t a) = g ≡ f
Fits (LoadsGroup c j) (LoadD d i w) = (c ≡ d) × (j ≡ i)
Fits (Exchanges k w t delta how) (Put l v u d m) = Put k w t delta how ≡ Put l v u d m
Fits (Exchanges k w t delta how) (Miss j v) = Miss (record { number = group_of k.number }) w ≡ Miss j v
Fits (ExchangesZeros k t delta how) (Put l v u d m) =
    (v.values ≡ eight_zeros) × (Put k v t delta how ≡ Put l v u d m)
Fits (Takes c j) (Take d i w) = (c ≡ d) × (j ≡ i) × (length w.values ≡ 8)
Fits (LoadsValue k) (LoadG l v) = k ≡ l
Fits (LoadsSystem i) (LoadS l v) = i ≡ l
Fits (LoadsMark g) (LoadM f m a) = g ≡ f
Fits (LoadsState c) (LoadO d x) = c ≡ d
Fits (LoadsAcknowledged c g) (LoadA d f x) = (c ≡ d) × (g ≡ f)
Fits _ _ = ⊥

-- these steps, the oldest first, run through a plan to an answer
abbrev pub Runs : {A : Type 0} → Plan A → List Step → A → Type 0
Runs (ends a) [] answer = a ≡ answer
Runs (ends a) (step ∷ steps) answer = ⊥
Runs refuses steps answer = ⊥
Runs (waits due next) [] answer = ⊥
Runs (waits due next) (step ∷ steps) answer = Fits due step × Runs (next step) steps answer
Runs (asks Allows next) steps answer =
    (t : ℕ) × (usual : ℕ) × Allows t usual × Runs (next t usual) steps answer

-- the first of two plans where something holds, and else the second
abbrev pub either : {A : Type 0} → Bool → Plan A → Plan A → Plan A
either true plan other = plan
either false plan other = other

-- one step that is known, and several in order
abbrev pub makes : {A : Type 0} → Step → Plan A → Plan A
makes step plan = waits (Makes step) (λ made. plan)

abbrev pub makes_all : {A : Type 0} → List Step → Plan A → Plan A
makes_all [] plan = plan
makes_all (step ∷ steps) plan = makes step (makes_all steps plan)

-- a plan, and then the one that its answer leads to
abbrev pub and_then : {A B : Type 0} → Plan A → (A → Plan B) → Plan B
and_then (ends a) more = more a
and_then refuses more = refuses
and_then (waits due next) more = waits due (λ step. and_then (next step) more)
and_then (asks Allows next) more = asks Allows (λ t usual. and_then (next t usual) more)

-- a plan of caller p from a history on, which answers the history after its steps too
abbrev pub recorded : {A : Type 0} → ℕ → History → Plan A → Plan (A × History)
recorded p h (ends a) = ends (a, h)
recorded p h refuses = refuses
recorded p h (waits due next) = waits due (λ step. recorded p (after p (step ∷ []) h) (next step))
recorded p h (asks Allows next) = asks Allows (λ t usual. recorded p h (next t usual))
