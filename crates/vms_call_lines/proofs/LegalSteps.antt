-- The steps that a history goes on with tell what stands when they are made.
use Rattle.std.proofs.Common.{◌≡◌, ◌≢◌, ℕ, inl, true, List, [], ◌∷◌, ap, subst, ◌∙◌, arith}
use Rattle.std.specs.Prelude.{Option, Some}
use Rattle.vms_calls.specs.Common.{CpuId, Facts, GoesOnTo, History, LeadsOn, LoadA, LoadD, LoadG, LoadM, LoadO, LoadS}
use Rattle.vms_calls.specs.Common.{LoadT, Miss, Put, State, Step, Take, TellsGroup, effect, eight_zeros, group_of}
use Rattle.vms_calls.specs.Common.{lives_in, owner_in, pages, role, state_after, threshold_at, threshold_sets_at, Meets}
use Rattle.vms_core.specs.Pages.{IsLegal}
use Rattle.vms_history.proofs.Common.{Extends-after, live_is_given, lives_in-others, owner_in-others, prefix_is_legal}
use Rattle.vms_plain_pages.specs.Common.{effect_by, pages_are_by_state, pages_by_state}
use Rattle.vms_call_lines.proofs.SameLists.{told-values}

same-cpu : (c d : CpuId) (who : Option CpuId) → who ≡ Some c → who ≡ Some d → c ≡ d
same-cpu c d who first second = cc

meets-tells : (facts : Facts) (h : History) (s : State) (p : ℕ) (step : Step) → Meets facts h s p step
    → pages_by_state.Tells (owner_in role h p) s step
meets-tells facts h s p (LoadT g t a) meets = λ c owns.
    let same = same-cpu meets.cpu c (owner_in role h p) meets.owns.owner owns in
    subst (λ (x : CpuId). (threshold_at s x.number g.number ≡ t) × (threshold_sets_at s x.number g.number ≡ a)) same
    (meets.value, meets.number)
meets-tells facts h s p (LoadD c j w) meets = meets.values
meets-tells facts h s p (Take c j w) meets = meets.values
meets-tells facts h s p (Put k w t delta how) meets = λ c owns.
    let same = same-cpu meets.cpu c (owner_in role h p) meets.owns.owner owns in
    inl (subst (λ (x : CpuId). TellsGroup s x.number (group_of k.number) w.values) same meets.values)
meets-tells facts h s p (Miss j w) meets = λ c owns told.
    let same = same-cpu meets.cpu c (owner_in role h p) meets.owns.owner owns in
    meets.other (told-values s c.number j.number w.values eight_zeros told
    (subst (λ (x : CpuId). TellsGroup s x.number j.number eight_zeros) same meets.zeros))
meets-tells facts h s p (LoadG k v) meets = meets.1
meets-tells facts h s p (LoadS i v) meets = meets.1
meets-tells facts h s p (LoadM g m a) meets = (meets.value, meets.number)
meets-tells facts h s p (LoadO c x) meets = meets.1
meets-tells facts h s p (LoadA c g x) meets = meets.value
meets-tells facts h s p _ meets = tt

-- a legal history in which a pass has made these steps last
pub legal-leads : (facts : Facts) (p : ℕ) (who : Option CpuId) (steps : List Step) (h : History) (next : State)
    → lives_in role h p ≡ true → owner_in role h p ≡ who → GoesOnTo pages facts p steps h next
    → LeadsOn pages_by_state who steps (state_after facts h) next
legal-leads facts p who [] h next lives owns goes = goes.state
legal-leads facts p who (step ∷ steps) h next lives owns goes =
    let legal : IsLegal facts (record { caller = p; step = step } ∷ h) =
    let more = Extends-after p steps (record { caller = p; step = step } ∷ h) in
    prefix_is_legal pages facts more.0 (record { caller = p; step = step } ∷ h) (subst (IsLegal facts) more.1 goes.legal) in
    let given = live_is_given pages facts h p legal.0 lives in
    let other : p ≢ 0 = λ main. let some = given.0 in absurd (omega arith) in
    let moved : state_after facts (record { caller = p; step = step } ∷ h) ≡ effect_by who step (state_after facts h) =
    ap (λ o. effect facts o step (state_after facts h)) owns ∙ pages_are_by_state.effect facts who step (state_after facts h)
    in (
      subst (λ o. pages_by_state.Tells o (state_after facts h) step) owns
          (meets-tells facts h (state_after facts h) p step legal.2),
      subst (λ s. LeadsOn pages_by_state who steps s next) moved
          (legal-leads facts p who steps (record { caller = p; step = step } ∷ h) next
          (lives_in-others role (record { caller = p; step = step }) h p other ∙ lives)
          (owner_in-others role (record { caller = p; step = step }) h p other ∙ owns)
          (record { legal = goes.legal; state = goes.state })),
    )
