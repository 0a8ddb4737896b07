-- For other crates too: which acts make a call on the page counters, what they spend there, and of which kinds their
-- steps are.
use Rattle.std.proofs.Common.{◌≡◌, ℕ, ℤ, pos, ◌+ℤ◌, List, [], Option, Some, None, refl, sym, ap, subst, ◌∙◌, arith}
use Rattle.std.proofs.lemmas.Int.{ints}
use Rattle.vms_calls.specs.Common.{Mode, Header, CounterId, CpuId, ZoneSize, IsLayout, State, Step, Buries, after}
use Rattle.vms_calls.specs.Common.{facts_of, CarriesAsBefore, SetO}
use Rattle.vms_calls.specs.PageCalls.{IsPageCall, page_spent}
use Rattle.vms_calls.specs.declared.page_calls.PageAnswer.{PageAnswer}
use Rattle.vms_calls.specs.declared.page_calls.PageAnswer.TheVariants.{Done}
use Rattle.vms_calls.specs.declared.page_calls.PageCall.{PageCall}
use Rattle.vms_calls.specs.declared.page_calls.PageCall.TheVariants.{Bury, Change}
use Rattle.vms_calls.proofs.Common.{Each, OfFolds, OfRatings}
use Rattle.vms_calls.proofs.PageCalls.{page-each, page-spends}
use Rattle.vms_core.specs.Totals.{change_size}
use Rattle.vms_core.specs.Pages as pages
use Rattle.vms_history.specs.Events.{total}
use Rattle.vms_script.specs.Common.{spent_on_counter}
use Rattle.vms_text.specs.declared.acts.Act.{Act}
use Rattle.vms_text.specs.declared.acts.Act.TheVariants.{Mod, Inc, Dec, Dead}
use Rattle.vms_text.specs.declared.acts.Lane.{Lane}
use Rattle.vms_text.specs.declared.acts.Lane.TheVariants.{Control, Cpu}
use Rattle.vms_world.specs.Common.{page_call, CallSteps, PageSteps, owner_of}
use Rattle.vms_world.specs.Acts.{spent_by_call}

-- what a line says of a counter is what the call of its act spends on it, and no act of the control lane spends
-- anything
pub spent_on_counter-call : (c : CpuId) (k : ℕ) (a : Act)
    → spent_on_counter k a ≡ spent_by_call page_spent (page_call (Cpu c) a) k
spent_on_counter-call c k (Mod l delta) = refl
spent_on_counter-call c k (Inc l) = refl
spent_on_counter-call c k (Dec l) = refl
spent_on_counter-call c k _ = refl

pub control-no_change : (a : Act) (k : CounterId) (delta : ℤ) (how : Mode)
    → page_call Control a ≡ Some (Change k delta how) → ⊥
control-no_change (Mod l d) k delta how is = cc
control-no_change _ k delta how is = cc

-- a burial alone buries a CPU
pub buries-burial : (lane : Lane) (a : Act) (c : CpuId) → page_call lane a ≡ Some (Bury c)
    → (lane ≡ Control) × (a ≡ Dead c)
buries-burial (Cpu d) (Dead e) c is = absurd cc
buries-burial Control (Dead d) c is = (refl, cc)
buries-burial _ _ c is = absurd cc

module _ (header : Header) (base : State) (pressure normal : ZoneSize → ℕ → ℕ → Type 0) where
  pub burial-steps : (p : ℕ) (c : CpuId) (h : pages.History) (steps : List Step)
      → PageSteps header base pressure normal Control p (Dead c) h steps
      → Buries (facts_of header base) normal c p h steps
  burial-steps p c h steps (Done, is) = is
  burial-steps p c h steps (_, is) = absurd is

  -- what holds of the steps of every call, and of none, holds of those of an act
  pub act-by_call : (lane : Lane) (p : ℕ) (a : Act) (h : pages.History) (steps : List Step)
      (Holds : Option PageCall → List Step → Type 0) → Holds None []
      → ((call : PageCall) (told : PageAnswer) → page_call lane a ≡ Some call
      → IsPageCall header base pressure normal call (owner_of lane) p h steps told → Holds (Some call) steps)
      → PageSteps header base pressure normal lane p a h steps → Holds (page_call lane a) steps
  act-by_call lane p a h steps Holds of_none of_call makes = by (page_call lane a) refl makes
    where
      by : (call : Option PageCall) → page_call lane a ≡ call
          → CallSteps (λ made ks told. IsPageCall header base pressure normal made (owner_of lane) p h ks told) call
          steps → Holds call steps
      by None on none = subst (Holds None) (sym none) of_none
      by (Some call) on (told, is) = of_call call told on is

  -- the steps of an act change each counter by what its call spends, and leave its caller carrying what it carried
  -- before
  pub act-spends : IsLayout header.layout → (k : ℕ) (lane : Lane) (p : ℕ) (a : Act) (h : pages.History)
      (steps : List Step) → PageSteps header base pressure normal lane p a h steps → (g : pages.History)
      → total (change_size k) (after p steps g)
      ≡ pos (spent_by_call page_spent (page_call lane a) k) +ℤ total (change_size k) g
  act-spends layout k lane p a h steps makes g =
      act-by_call lane p a h steps (λ call ks. total (change_size k) (after p ks g)
      ≡ pos (spent_by_call page_spent call k) +ℤ total (change_size k) g) (omega (arith, ints))
      (λ call told on is.
      (page-spends pressure normal header base call (owner_of lane) p h steps told layout is g).changes k) makes

  pub act-carries : IsLayout header.layout → (lane : Lane) (p : ℕ) (a : Act) (h : pages.History) (steps : List Step)
      → PageSteps header base pressure normal lane p a h steps → (g : pages.History)
      → CarriesAsBefore header.layout p steps g
  act-carries layout lane p a h steps makes g =
      act-by_call lane p a h steps (λ call ks. CarriesAsBefore header.layout p ks g)
      (record { counters = λ k. refl; items = λ i. refl })
      (λ call told on is.
      (page-spends pressure normal header base call (owner_of lane) p h steps told layout is g).carries) makes

  -- the steps of an act that changes no counter are of a kind that those of looks, ratings and folds are of
  pub act-each : (Kind : Step → Type 0) → OfRatings Kind → OfFolds Kind → (lane : Lane) (p : ℕ) (a : Act)
      (h : pages.History) (steps : List Step)
      → ((k : CounterId) (delta : ℤ) (how : Mode) → page_call lane a ≡ Some (Change k delta how) → ⊥)
      → ((c : CpuId) → page_call lane a ≡ Some (Bury c) → Kind (SetO c))
      → PageSteps header base pressure normal lane p a h steps → Each Kind steps
  act-each Kind ratings folds lane p a h steps no_change buried makes =
      act-by_call lane p a h steps (λ call ks. Each Kind ks) tt
      (λ call told on is. page-each Kind ratings folds header base pressure normal call (owner_of lane) p h steps told
      (λ k delta how same. no_change k delta how (on ∙ ap (λ (made : PageCall). Some made) same))
      (λ c same. buried c (on ∙ ap (λ (made : PageCall). Some made) same)) is) makes
