-- What a load or a take of the page counters finds is what stands: made in one history, it finds the same.
use Rattle.std.proofs.Common.{◌≡◌, ℕ, ◌<◌, List, ◌∷◌, length, ℤ, pos, sym, ap, subst, ◌∙◌, arith}
use Rattle.std.specs.Prelude.{Option, Some, slice_index_or}
use Rattle.std.proofs.Math.Dec.{T_prop}
use Rattle.std.proofs.lemmas.List.{ext_get_or}
use Rattle.vms_base.specs.Groups.{AreBytes}
use Rattle.vms_world.specs.Common.{CounterId, CpuId, CpuState, Diffs, Event, Facts, GroupId, ItemId, LoadD, LoadG}
use Rattle.vms_world.specs.Common.{LoadM, LoadO, LoadS, LoadT, PlaceId, State, Step, Take, after, cpu_at, mark_at}
use Rattle.vms_world.specs.Common.{mark_sets_at, owner_in, pages, system_at, threshold_at, threshold_sets_at, value_at}
use Rattle.vms_history.specs.Legal.{IsLegal, state_after}
use Rattle.vms_core.specs.Cells.{TellsGroup, acknowledged_at}
use Rattle.vms_core.specs.Steps.{role}
use Rattle.vms_core.specs.declared.steps.Step.TheVariants.{LoadA}
use Rattle.vms_file_order_laws.proofs.LegalSteps.{met, with_step}

-- differentials of the same entries are one
are_bytes-prop : (values : List ℤ) → IsProp (AreBytes values)
are_bytes-prop values = hlevel T_prop

diffs_of : (values : List ℤ) → AreBytes values → Diffs
diffs_of values bytes = record { values = values; bytes = bytes }

one_list : (w w' : Diffs) → w.values ≡ w'.values → w ≡ w'
unfolding diffs_of
one_list w w' same =
    subst (λ (values : List ℤ). (bytes : AreBytes values) → w ≡ diffs_of values bytes) same
    (λ bytes. ap (diffs_of w.values) (are_bytes-prop w.values w.bytes bytes)) w'.bytes

-- a list that tells of a group is one
group-same : (s : State) (c j : ℕ) (w w' : Diffs) → TellsGroup s c j w.values → TellsGroup s c j w'.values → w ≡ w'
group-same s c j w w' tells tells' =
    one_list w w'
    (ext_get_or (pos 0) w.values w'.values (tells.eight ∙ sym tells'.eight) each)
  where
    each : (i : ℕ) → i < length w.values → slice_index_or w.values i (pos 0) ≡ slice_index_or w'.values i (pos 0)
    each i below =
        let inside : i < 8 = omega (arith, below, tells.eight) in
        tells.each i inside ∙ sym (tells'.each i inside)

some-same : (c c' : CpuId) → Some c ≡ Some c' → c ≡ c'
some-same c c' same = cc

module _ (facts : Facts) (p : ℕ) where
  abbrev pub Legal : List Step → List (Event Step) → Type 0
  Legal steps h = IsLegal pages facts (after p steps h)

  abbrev now : List (Event Step) → State
  now h = state_after pages facts h

  pub next-same : (k k' : Step) (h h' : List (Event Step)) → k ≡ k' → h ≡ h' → with_step p k h ≡ with_step p k' h'
  next-same k k' h h' same from = ap (λ x. with_step p x h) same ∙ ap (with_step p k') from

  module _ (more more' : List Step) (h h' : List (Event Step)) (from : h ≡ h') where
    pub threshold-same : (g : PlaceId) (t a t' a' : ℕ) → Legal (LoadT g t a ∷ more) h → Legal (LoadT g t' a' ∷ more') h'
        → (t ≡ t') × (a ≡ a')
    threshold-same g t a t' a' legal legal' =
        let here = met pages facts p (LoadT g t a) more h legal in
        let there = met pages facts p (LoadT g t' a') more' h' legal' in
        let cpu = some-same here.cpu there.cpu
        (sym here.owns.owner ∙ ap (λ k. owner_in role k p) from ∙ there.owns.owner) in (
          sym here.value ∙ ap (λ k. threshold_at (now k) here.cpu.number g.number) from
              ∙ ap (λ (c : CpuId). threshold_at (now h') c.number g.number) cpu ∙ there.value,
          sym here.number ∙ ap (λ k. threshold_sets_at (now k) here.cpu.number g.number) from
              ∙ ap (λ (c : CpuId). threshold_sets_at (now h') c.number g.number) cpu ∙ there.number,
        )

    pub diffs-same : (c : CpuId) (j : GroupId) (w w' : Diffs) → Legal (LoadD c j w ∷ more) h
        → Legal (LoadD c j w' ∷ more') h' → w ≡ w'
    diffs-same c j w w' legal legal' = group-same (now h') c.number j.number w w'
        (subst (λ k. TellsGroup (now k) c.number j.number w.values) from
        (met pages facts p (LoadD c j w) more h legal).values)
        (met pages facts p (LoadD c j w') more' h' legal').values

    pub take-same : (c : CpuId) (j : GroupId) (w w' : Diffs) → Legal (Take c j w ∷ more) h
        → Legal (Take c j w' ∷ more') h' → w ≡ w'
    take-same c j w w' legal legal' = group-same (now h') c.number j.number w w'
        (subst (λ k. TellsGroup (now k) c.number j.number w.values) from
        (met pages facts p (Take c j w) more h legal).values)
        (met pages facts p (Take c j w') more' h' legal').values

    pub value-same : (k : CounterId) (v v' : ℤ) → Legal (LoadG k v ∷ more) h → Legal (LoadG k v' ∷ more') h' → v ≡ v'
    value-same k v v' legal legal' =
        sym (met pages facts p (LoadG k v) more h legal).1 ∙ ap (λ g. value_at (now g) k.number) from
        ∙ (met pages facts p (LoadG k v') more' h' legal').1

    pub system-same : (i : ItemId) (v v' : ℤ) → Legal (LoadS i v ∷ more) h → Legal (LoadS i v' ∷ more') h' → v ≡ v'
    system-same i v v' legal legal' =
        sym (met pages facts p (LoadS i v) more h legal).1 ∙ ap (λ g. system_at (now g) i.number) from
        ∙ (met pages facts p (LoadS i v') more' h' legal').1

    pub mark-same : (g : PlaceId) (m a m' a' : ℕ) → Legal (LoadM g m a ∷ more) h → Legal (LoadM g m' a' ∷ more') h'
        → (m ≡ m') × (a ≡ a')
    mark-same g m a m' a' legal legal' =
        let here = met pages facts p (LoadM g m a) more h legal in
        let there = met pages facts p (LoadM g m' a') more' h' legal' in (
          sym here.value ∙ ap (λ k. mark_at (now k) g.number) from ∙ there.value,
          sym here.number ∙ ap (λ k. mark_sets_at (now k) g.number) from ∙ there.number,
        )

    pub state-same : (c : CpuId) (x x' : CpuState) → Legal (LoadO c x ∷ more) h → Legal (LoadO c x' ∷ more') h' → x ≡ x'
    state-same c x x' legal legal' =
        sym (met pages facts p (LoadO c x) more h legal).1 ∙ ap (λ g. cpu_at (now g) c.number) from
        ∙ (met pages facts p (LoadO c x') more' h' legal').1

    pub acknowledged-same : (c : CpuId) (g : PlaceId) (x x' : Option ℕ) → Legal (LoadA c g x ∷ more) h
        → Legal (LoadA c g x' ∷ more') h' → x ≡ x'
    acknowledged-same c g x x' legal legal' =
        sym (met pages facts p (LoadA c g x) more h legal).value
        ∙ ap (λ k. acknowledged_at (now k) c.number g.number) from
        ∙ (met pages facts p (LoadA c g x') more' h' legal').value
