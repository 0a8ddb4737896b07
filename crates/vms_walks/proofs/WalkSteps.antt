-- What a step of the pass makes of a walk.
use Rattle.std.proofs.Common.{◌≡◌, ℕ, List, [], ◌∷◌, ◌++◌, drop, take, refl, sym, ap, subst, ◌∙◌, append_assoc}
use Rattle.std.proofs.Common.{append-nil}
use Rattle.std.proofs.lemmas.List.{take-append-drop}
use Rattle.vms_history.proofs.Common.{after-steps, own-mine}
use Rattle.vms_world.specs.Common.{Step, Act, Header, Lane, PageSteps, State, ZoneSize, after, own}
use Rattle.vms_core.specs.Pages.{History}
use Rattle.vms_calls.specs.declared.page_calls.PageAnswer.{PageAnswer}
use Rattle.vms_plans.specs.Common.{Plan, PlansAreCalls, Runs}
use Rattle.vms_written.specs.Common.{GoesAlong}
use Rattle.vms_own_acts.specs.Common.{Along, IsFunction, IsHistoryFor, IsUnderWay, MakesInRow}
use Rattle.vms_own_acts.proofs.Acts.{one-act}
use Rattle.vms_own_acts.proofs.OwnRows.{along-of}
use Rattle.vms_own_acts.proofs.Rows.{along-front, row-front}
use Rattle.vms_own_acts.proofs.StepLists.{after-injective}
use Rattle.vms_own_acts.proofs.Ways.{OnOrOver, on_or_over, row-over}
use Rattle.vms_own_acts.proofs.Ways.OnOrOver.{on, over}

module _ (header : Header) (base : State) (pressure normal : ZoneSize → ℕ → ℕ → Type 0) (lane : Lane) (p : ℕ)
    (plans : PlansAreCalls pressure normal) (is_p : IsFunction pressure) (is_n : IsFunction normal) where
  abbrev makes : Act → History → List Step → Type 0
  makes = PageSteps header base pressure normal lane p

  -- the own events with a step
  pub with_step : (k : Step) (h : History) → own (record { caller = p; step = k } ∷ h) p ≡ after p (k ∷ []) (own h p)
  with_step k h = own-mine (record { caller = p; step = k }) h p refl

  module _ (acts : List Act) (k : Step) (h : History)
      (is : IsHistoryFor header base lane p (record { caller = p; step = k } ∷ h))
      (along : GoesAlong makes p acts (record { caller = p; step = k } ∷ h)) where
    alone : Along makes p acts [] (after p (k ∷ []) (own h p))
    alone = subst (λ to. Along makes p acts [] to) (with_step k h)
        (along-of header base pressure normal lane p acts (record { caller = p; step = k } ∷ h) is along)

    -- no step comes after all acts
    pub nothing-after : MakesInRow makes p acts [] (own h p) → ⊥
    nothing-after row =
        let front = along-front makes p (one-act header base pressure normal lane p plans is_p is_n) acts [] []
        (own h p) (after p (k ∷ []) (own h p)) (k ∷ []) row refl
        (subst (λ all. Along makes p all [] (after p (k ∷ []) (own h p))) (sym (append-nil acts)) alone) in
        let none : [] ≡ k ∷ [] = after-injective p [] (k ∷ []) (own h p) front in
        absurd cc

    -- a step after the first ones of an act goes on with its call, if this hasn't ended
    pub step-on : (begun : ℕ) (made : List Act) (next : Act) (plan : Plan PageAnswer)
        → take begun acts ≡ made ++ next ∷ []
        → IsUnderWay header base pressure normal lane p made next plan (own h p)
        → (steps : List Step) × (told : PageAnswer) × Runs plan steps told
        → ((told : PageAnswer) → Runs plan [] told → ⊥)
        → (ks : List Step) × (told : PageAnswer) × Runs plan (k ∷ ks) told
    step-on begun made next plan parts at ends unended =
        by (on_or_over header base pressure normal lane p plans is_p is_n made next plan (own h p) at ends
        (drop begun acts) k front)
      where
        whole : acts ≡ made ++ next ∷ drop begun acts
        whole = sym (take-append-drop begun acts) ∙ ap (λ xs. xs ++ drop begun acts) parts
            ∙ append_assoc made (next ∷ []) (drop begun acts)

        front : Along makes p (next ∷ drop begun acts) at.before (after p (k ∷ []) (own h p))
        front = along-front makes p (one-act header base pressure normal lane p plans is_p is_n) made
            (next ∷ drop begun acts) [] at.before (after p (k ∷ []) (own h p)) (at.begun ++ k ∷ []) at.made_before
            (ap (after p (k ∷ [])) at.in_order ∙ sym (after-steps p at.begun (k ∷ []) at.before))
            (subst (λ all. Along makes p all [] (after p (k ∷ []) (own h p))) whole alone)

        by : OnOrOver header base pressure normal lane p plans is_p is_n made next plan (own h p) at ends
            k → (ks : List Step) × (told : PageAnswer) × Runs plan (k ∷ ks) told
        by (on ks told run) = (ks, told, run)
        by (over told run) = absurd (unended told run)

  -- where all acts are made no call is open
  pub not-made : (acts : List Act) (mine : History) (begun : ℕ) (made : List Act) (next : Act) (plan : Plan PageAnswer)
      → take begun acts ≡ made ++ next ∷ []
      → IsUnderWay header base pressure normal lane p made next plan mine
      → (steps : List Step) × (told : PageAnswer) × Runs plan steps told
      → ((told : PageAnswer) → Runs plan [] told → ⊥) → MakesInRow makes p acts [] mine → ⊥
  not-made acts mine begun made next plan parts at ends unended row =
      let whole : acts ≡ made ++ next ∷ drop begun acts =
      sym (take-append-drop begun acts) ∙ ap (λ xs. xs ++ drop begun acts) parts
      ∙ append_assoc made (next ∷ []) (drop begun acts) in
      let front = row-front makes p (one-act header base pressure normal lane p plans is_p is_n) made
      (next ∷ drop begun acts) [] at.before mine at.begun at.made_before at.in_order
      (subst (λ all. MakesInRow makes p all [] mine) whole row) in
      let over_is = row-over header base pressure normal lane p plans is_p is_n made next plan mine at ends
      (drop begun acts) front in
      unended over_is.0 over_is.1
