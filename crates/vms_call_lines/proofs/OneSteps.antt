-- The one step that is due and tells what stands.
use Rattle.std.proofs.Common.{◌≡◌, ℕ, ℤ, refl, sym, ap, subst, ◌∙◌}
use Rattle.std.specs.Prelude.{Option, Some}
use Rattle.vms_calls.specs.Common.{CounterId, CpuId, CpuState, Diffs, GroupId, ItemId, LoadA, LoadD, LoadG, LoadM}
use Rattle.vms_calls.specs.Common.{LoadO, LoadS, LoadT, Miss, Mode, Put, Take, PlaceId, State, Step, TellsGroup}
use Rattle.vms_calls.specs.Common.{acknowledged_at, cpu_at, group_of, mark_at, mark_sets_at, system_at, threshold_at}
use Rattle.vms_calls.specs.Common.{threshold_sets_at, value_at}
use Rattle.vms_plans.specs.declared.due_steps.DueStep.TheVariants.{Makes, LoadsAcknowledged, LoadsGroup, LoadsMark}
use Rattle.vms_plans.specs.declared.due_steps.DueStep.TheVariants.{LoadsState, LoadsSystem, LoadsThreshold, LoadsValue}
use Rattle.vms_plans.specs.declared.due_steps.DueStep.TheVariants.{Exchanges, Takes}
use Rattle.vms_call_lines.proofs.SameLists.{told_once}
use Rattle.vms_call_lines.proofs.Ways.{IsOneStep}

module _ (who : Option CpuId) (s : State) where
  pub one-made : (step : Step) → IsOneStep who (Makes step) s step
  one-made step x fits tells = sym fits

  pub one-value : (k : CounterId) (v : ℤ) → v ≡ value_at s k.number → IsOneStep who (LoadsValue k) s (LoadG k v)
  one-value k v is (LoadG l u) fits tells =
      ap (λ (x : CounterId). LoadG x u) (sym fits)
      ∙ ap (λ x. LoadG k x) (sym tells ∙ ap (λ (x : CounterId). value_at s x.number) (sym fits) ∙ sym is)
  one-value k v is _ fits tells = absurd fits

  pub one-system : (i : ItemId) (v : ℤ) → v ≡ system_at s i.number → IsOneStep who (LoadsSystem i) s (LoadS i v)
  one-system i v is (LoadS l u) fits tells =
      ap (λ (x : ItemId). LoadS x u) (sym fits)
      ∙ ap (λ x. LoadS i x) (sym tells ∙ ap (λ (x : ItemId). system_at s x.number) (sym fits) ∙ sym is)
  one-system i v is _ fits tells = absurd fits

  pub one-state : (c : CpuId) (x : CpuState) → x ≡ cpu_at s c.number → IsOneStep who (LoadsState c) s (LoadO c x)
  one-state c x is (LoadO d y) fits tells =
      ap (λ (z : CpuId). LoadO z y) (sym fits)
      ∙ ap (λ z. LoadO c z) (sym tells ∙ ap (λ (z : CpuId). cpu_at s z.number) (sym fits) ∙ sym is)
  one-state c x is _ fits tells = absurd fits

  pub one-mark : (g : PlaceId) (m a : ℕ) → m ≡ mark_at s g.number → a ≡ mark_sets_at s g.number
      → IsOneStep who (LoadsMark g) s (LoadM g m a)
  one-mark g m a is number (LoadM f n b) fits tells =
      ap (λ (z : PlaceId). LoadM z n b) (sym fits)
      ∙ ap (λ z. LoadM g z b) (sym tells.0 ∙ ap (λ (z : PlaceId). mark_at s z.number) (sym fits) ∙ sym is)
      ∙ ap (λ z. LoadM g m z) (sym tells.1 ∙ ap (λ (z : PlaceId). mark_sets_at s z.number) (sym fits) ∙ sym number)
  one-mark g m a is number _ fits tells = absurd fits

  pub one-acknowledged : (c : CpuId) (g : PlaceId) (x : Option ℕ) → x ≡ acknowledged_at s c.number g.number
      → IsOneStep who (LoadsAcknowledged c g) s (LoadA c g x)
  one-acknowledged c g x is (LoadA d f y) fits tells =
      ap (λ (z : CpuId). LoadA z f y) (sym fits.0) ∙ ap (λ (z : PlaceId). LoadA c z y) (sym fits.1)
      ∙ ap (λ z. LoadA c g z) (sym tells ∙ ap (λ (z : CpuId). acknowledged_at s z.number f.number) (sym fits.0)
      ∙ ap (λ (z : PlaceId). acknowledged_at s c.number z.number) (sym fits.1) ∙ sym is)
  one-acknowledged c g x is _ fits tells = absurd fits

  pub one-group : (c : CpuId) (j : GroupId) (w : Diffs) → TellsGroup s c.number j.number w.values
      → IsOneStep who (LoadsGroup c j) s (LoadD c j w)
  one-group c j w told (LoadD d i v) fits tells =
      ap (λ (z : CpuId). LoadD z i v) (sym fits.0) ∙ ap (λ (z : GroupId). LoadD c z v) (sym fits.1)
      ∙ ap (λ z. LoadD c j z) (told_once s c.number j.number v w
      (subst (λ (z : GroupId). TellsGroup s c.number z.number v.values) (sym fits.1)
      (subst (λ (z : CpuId). TellsGroup s z.number i.number v.values) (sym fits.0) tells)) told)
  one-group c j w told _ fits tells = absurd fits

  pub one-take : (c : CpuId) (j : GroupId) (w : Diffs) → TellsGroup s c.number j.number w.values
      → IsOneStep who (Takes c j) s (Take c j w)
  one-take c j w told (Take d i v) fits tells =
      ap (λ (z : CpuId). Take z i v) (sym fits.0) ∙ ap (λ (z : GroupId). Take c z v) (sym fits.1)
      ∙ ap (λ z. Take c j z) (told_once s c.number j.number v w
      (subst (λ (z : GroupId). TellsGroup s c.number z.number v.values) (sym fits.1)
      (subst (λ (z : CpuId). TellsGroup s z.number i.number v.values) (sym fits.0) tells)) told)
  one-take c j w told _ fits tells = absurd fits

-- what the owner of a CPU loads, and its exchange
module _ (c : CpuId) (s : State) where
  pub one-threshold : (g : PlaceId) (t a : ℕ) → t ≡ threshold_at s c.number g.number
      → a ≡ threshold_sets_at s c.number g.number → IsOneStep (Some c) (LoadsThreshold g) s (LoadT g t a)
  one-threshold g t a is number (LoadT f u b) fits tells =
      let told = tells c refl in
      ap (λ (z : PlaceId). LoadT z u b) (sym fits)
      ∙ ap (λ z. LoadT g z b) (sym told.0 ∙ ap (λ (z : PlaceId). threshold_at s c.number z.number) (sym fits) ∙ sym is)
      ∙ ap (λ z. LoadT g t z)
      (sym told.1 ∙ ap (λ (z : PlaceId). threshold_sets_at s c.number z.number) (sym fits) ∙ sym number)
  one-threshold g t a is number _ fits tells = absurd fits

  missed-list : (j i : GroupId) (w v : Diffs) → Miss j w ≡ Miss i v → w ≡ v
  missed-list j i w v same = cc

  missed-group : (j i : GroupId) (w v : Diffs) → Miss j w ≡ Miss i v → j ≡ i
  missed-group j i w v same = cc

  -- an exchange of the list that stands wins
  pub one-exchange : (k : CounterId) (w : Diffs) (t : ℕ) (delta : ℤ) (how : Mode)
      → TellsGroup s c.number (group_of k.number) w.values
      → IsOneStep (Some c) (Exchanges k w t delta how) s (Put k w t delta how)
  one-exchange k w t delta how told (Put l v u d m) fits tells = sym fits
  one-exchange k w t delta how told (Miss i v) fits tells =
      let j : GroupId = record { number = group_of k.number } in
      absurd (tells c refl (subst (λ (x : GroupId). TellsGroup s c.number x.number v.values) (missed-group j i w v fits)
      (subst (λ (x : Diffs). TellsGroup s c.number j.number x.values) (missed-list j i w v fits) told)))
  one-exchange k w t delta how told _ fits tells = absurd fits
