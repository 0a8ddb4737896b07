-- The one way through a plan, put together of its steps.
use Rattle.std.proofs.Common.{◌≡◌, List, [], ◌∷◌, ◌++◌, refl, sym, ap, subst, ◌∙◌}
use Rattle.std.specs.Prelude.{Option}
use Rattle.vms_calls.specs.Common.{CpuId, LeadsOn, State, Step}
use Rattle.vms_plans.specs.declared.due_steps.DueStep.{DueStep}
use Rattle.vms_plans.specs.Common.{Fits, Plan, Runs, and_then, ends, waits}
use Rattle.vms_plans.proofs.PlanLaws.{splits-and_then}
use Rattle.vms_plain_pages.specs.Common.{effect_by, pages_by_state}
use Rattle.vms_call_lines.specs.Ways.{IsOnlyWay, led}

-- one step alone is due and tells what stands
abbrev pub IsOneStep : Option CpuId → DueStep → State → Step → Type 0
IsOneStep who due s step = (x : Step) → Fits due x → pages_by_state.Tells who s x → x ≡ step

module _ {A : Type 0} (who : Option CpuId) where
  pub only-ends : (answer : A) (s : State) → IsOnlyWay who (ends answer) s [] answer
  only-ends answer s = record { only = by }
    where
      by : (made : List Step) (told : A) (last : State) → Runs (ends answer) made told
          → LeadsOn pages_by_state who made s last → (made ≡ []) × (told ≡ answer)
      by [] told last run leads = (refl, sym run)
      by (x ∷ xs) told last run leads = absurd run

  pub only-waits : (due : DueStep) (next : Step → Plan A) (s : State) (step : Step) (steps : List Step) (answer : A)
      → IsOneStep who due s step → IsOnlyWay who (next step) (effect_by who step s) steps answer
      → IsOnlyWay who (waits due next) s (step ∷ steps) answer
  only-waits due next s step steps answer one later = record { only = by }
    where
      by : (made : List Step) (told : A) (last : State) → Runs (waits due next) made told
          → LeadsOn pages_by_state who made s last → (made ≡ step ∷ steps) × (told ≡ answer)
      by [] told last run leads = absurd run
      by (x ∷ xs) told last run leads =
          let same = one x run.0 leads.0 in
          let rest = later.only xs told last (subst (λ y. Runs (next y) xs told) same run.1)
          (subst (λ y. LeadsOn pages_by_state who xs (effect_by who y s) last) same leads.1) in
          (ap (λ y. y ∷ xs) same ∙ ap (λ ys. step ∷ ys) rest.0, rest.1)

pub led-append : (who : Option CpuId) (first rest : List Step) (s : State)
    → led who (first ++ rest) s ≡ led who rest (led who first s)
led-append who [] rest s = refl
led-append who (x ∷ first) rest s = led-append who first rest (effect_by who x s)

leads-split : (who : Option CpuId) (first rest : List Step) (s last : State)
    → LeadsOn pages_by_state who (first ++ rest) s last
    → LeadsOn pages_by_state who first s (led who first s) × LeadsOn pages_by_state who rest (led who first s) last
leads-split who [] rest s last leads = (refl, leads)
leads-split who (x ∷ first) rest s last leads =
    let parts = leads-split who first rest (effect_by who x s) last leads.1 in ((leads.0, parts.0), parts.1)

-- the one way through a plan, and then through the one that its answer leads to
pub only-and_then : {A B : Type 0} (who : Option CpuId) (plan : Plan A) (more : A → Plan B) (s : State)
    (first rest : List Step) (a : A) (b : B) → IsOnlyWay who plan s first a
    → IsOnlyWay who (more a) (led who first s) rest b → IsOnlyWay who (and_then plan more) s (first ++ rest) b
only-and_then {A} {B} who plan more s first rest a b way later = record { only = by }
  where
    by : (made : List Step) (told : B) (last : State) → Runs (and_then plan more) made told
        → LeadsOn pages_by_state who made s last → (made ≡ first ++ rest) × (told ≡ b)
    by made told last run leads =
        let parts = splits-and_then plan more made told run in
        let led_on = leads-split who parts.first parts.rest s last
        (subst (λ xs. LeadsOn pages_by_state who xs s last) parts.in_order leads) in
        let begun = way.only parts.first parts.answer (led who parts.first s) parts.run led_on.0 in
        let ended = later.only parts.rest told last
        (subst (λ x. Runs (more x) parts.rest told) begun.1 parts.later)
        (subst (λ xs. LeadsOn pages_by_state who parts.rest (led who xs s) last) begun.0 led_on.1) in
        (parts.in_order ∙ ap (λ xs. xs ++ parts.rest) begun.0 ∙ ap (λ xs. first ++ xs) ended.0, ended.1)
