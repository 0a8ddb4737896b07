-- For other crates too: a pass that owns a CPU makes steps on top of a legal history, and no other caller does.
use Rattle.std.proofs.Common.{◌≡◌, ◌≢◌, ℕ, ◌+◌, true, ◌∷◌, Some, refl, sym, ap, ◌∙◌, subst}
use Rattle.vms_history.specs.Common.{CpuId, own, Acts, Role, lives, owner, owner_in, Works}
use Rattle.vms_history.specs.declared.events.Event.{Event}
use Rattle.vms_history.proofs.Common.{own-mine, own-others}
use Rattle.vms_core.specs.declared.states.State.{State}
use Rattle.vms_core.specs.declared.steps.Facts.{Facts}
use Rattle.vms_core.specs.declared.steps.Step.{Step}
use Rattle.vms_core.specs.Common.{Meets, pages, History, IsLegal, state_after, role, own_effect, effect_of, spent}
use Rattle.vms_core.specs.Common.{spent_by}

module _ (facts : Facts) (p : ℕ) (cpu : CpuId) (other_than_main : p ≢ 0) where
  abbrev pub event : Step → Event Step
  event k = record { caller = p; step = k }

  -- what is known of a history, with the events of the main pass, those of p, and the state
  pub record Stands (main mine : History) (s : State) (h : History) : Type 0 where
    pub legal : IsLegal facts h
    pub main_is : own h 0 ≡ main
    pub mine_is : own h p ≡ mine
    pub state_is : state_after facts h ≡ s

  module _ (main : History) (lives_there : lives role main p ≡ true) (owner_there : owner role main p ≡ Some cpu) where
    pub owner_now : (mine : History) (s : State) (h : History) → Stands main mine s h → owner_in role h p ≡ Some cpu
    owner_now mine s h stands = ap (λ es. owner role es p) stands.main_is ∙ owner_there

    pub Stands-next : (mine : History) (s : State) (h : History) (k : Step) → role k ≡ Works → Stands main mine s h
        → Meets facts h s p k → Stands main (event k ∷ mine) (own_effect cpu k (effect_of k s)) (event k ∷ h)
    Stands-next mine s h k works stands meets = record {
      legal = (
        stands.legal,
        subst (λ (w : Role). Acts pages facts h p w) (sym works)
            (other_than_main, (ap (λ es. lives role es p) stands.main_is ∙ lives_there)),
        subst (λ (now : State). Meets facts h now p k) (sym stands.state_is) meets,
      );
      main_is = own-others (event k) h 0 other_than_main ∙ stands.main_is;
      mine_is = own-mine (event k) h p refl ∙ ap (λ es. event k ∷ es) stands.mine_is;
      state_is = rw (owner_now mine s h stands, stands.state_is);
    }

    pub spent-after : (mine : History) (s : State) (h : History) (k : Step) → Stands main mine s h → (c l : ℕ)
        → spent (event k ∷ h) c l ≡ spent_by (Some cpu) c l k + spent h c l
    spent-after mine s h k stands c l = rw (owner_now mine s h stands)
