-- For other crates too: the steps of an act begin no other steps of it, and an act that makes a call makes a step.
use Rattle.std.proofs.Common.{◌≡◌, ℕ, List, [], ◌++◌, refl, sym, subst}
use Rattle.std.specs.Prelude.{None, Option, Some}
use Rattle.vms_world.specs.Common.{IsLayout, Step, Act, CallSteps, Header, Lane, PageSteps, State, ZoneSize, owner_of}
use Rattle.vms_world.specs.Common.{page_call}
use Rattle.vms_calls.specs.PageCalls.{IsPageCall}
use Rattle.vms_calls.specs.declared.page_calls.PageAnswer.{PageAnswer}
use Rattle.vms_calls.specs.declared.page_calls.PageCall.{PageCall}
use Rattle.vms_core.specs.Pages.{History}
use Rattle.vms_plans.specs.Common.{PlansAreCalls, plan_of}
use Rattle.vms_own_acts.specs.Common.{IsFunction}
use Rattle.vms_own_acts.proofs.OneWay.{nothing-follows}
use Rattle.vms_own_acts.proofs.OneWayCalls.{call-one}
use Rattle.vms_own_acts.proofs.SomeSteps.{call-some}
use Rattle.vms_own_acts.proofs.StepLists.{nothing_last}

module _ (header : Header) (base : State) (pressure normal : ZoneSize → ℕ → ℕ → Type 0) (lane : Lane) (p : ℕ) where
  -- which steps an act makes goes by its call
  abbrev pub CallMakes : Option PageCall → History → List Step → Type 0
  CallMakes found h steps =
      CallSteps (λ call ks told. IsPageCall header base pressure normal call (owner_of lane) p h ks told) found steps

  pub made-call : (found : Option PageCall) (call : PageCall) (h : History) (steps : List Step) → found ≡ Some call
      → CallMakes found h steps
      → (told : PageAnswer) × IsPageCall header base pressure normal call (owner_of lane) p h steps told
  made-call found call h steps is made = subst (λ f. CallMakes f h steps) is made

  pub call-made : (found : Option PageCall) (call : PageCall) (h : History) (steps : List Step) (told : PageAnswer)
      → found ≡ Some call → IsPageCall header base pressure normal call (owner_of lane) p h steps told
      → CallMakes found h steps
  call-made found call h steps told is made = subst (λ f. CallMakes f h steps) (sym is) (told, made)

  pub nothing-made : (found : Option PageCall) (h : History) (steps : List Step) → found ≡ None
      → CallMakes found h steps → steps ≡ []
  nothing-made found h steps is made = subst (λ f. CallMakes f h steps) is made

  pub made-nothing : (found : Option PageCall) (h : History) → found ≡ None → CallMakes found h []
  made-nothing found h is = subst (λ f. CallMakes f h []) (sym is) refl

  module _ (plans : PlansAreCalls pressure normal) where
    module _ (is_p : IsFunction pressure) (is_n : IsFunction normal) where
      one-call : (found : Option PageCall) (h : History) (first more : List Step) → CallMakes found h first
          → CallMakes found h (first ++ more) → more ≡ []
      one-call None h first more made longer = nothing_last first more longer
      one-call (Some call) h first more made longer =
          (nothing-follows (plan_of header base pressure normal call (owner_of lane) p h)
          (call-one header base pressure normal is_p is_n call (owner_of lane) p h) first more made.0 longer.0
          ((plans header base call (owner_of lane) p h first made.0).0 made.1)
          ((plans header base call (owner_of lane) p h (first ++ more) longer.0).0 longer.1)).0

      pub one-act : (act : Act) (h : History) (first more : List Step)
          → PageSteps header base pressure normal lane p act h first
          → PageSteps header base pressure normal lane p act h (first ++ more) → more ≡ []
      one-act act h first more made longer = one-call (page_call lane act) h first more made longer

    pub some-step : IsLayout header.layout → (call : PageCall) (h : History) (told : PageAnswer)
        → IsPageCall header base pressure normal call (owner_of lane) p h [] told → ⊥
    some-step layout call h told made =
        call-some header layout base pressure normal call (owner_of lane) p h told
        ((plans header base call (owner_of lane) p h [] told).0 made)
