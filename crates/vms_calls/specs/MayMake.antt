-- A pass makes steps one after another while others act: what it has made, and that it may make the next one.
use Rattle.std.specs.Prelude.{◌≡◌, ℕ, true, ◌⊎◌, List, Some}
use Rattle.vms_history.specs.Common.{CpuId, group_of, lives_in, owner_in}
use Rattle.vms_history.specs.PassSteps as making
use Rattle.vms_core.specs.declared.steps.Facts.{Facts}
use Rattle.vms_core.specs.declared.steps.Step.{Step}
use Rattle.vms_core.specs.declared.steps.Step.TheVariants.{LoadT, LoadD, Put, Miss, Take, LoadG, LoadS, LoadM, LoadO}
use Rattle.vms_core.specs.declared.steps.Step.TheVariants.{LoadA}
use Rattle.vms_core.specs.Common.{TellsGroup, value_at, system_at, threshold_at, threshold_sets_at, mark_at}
use Rattle.vms_core.specs.Common.{mark_sets_at, cpu_at, acknowledged_at, eight_zeros, IsControl, pages, History}
use Rattle.vms_core.specs.Common.{IsLegal, state_after, role}

-- pass p lives and has made these steps since the earlier history, the oldest first, whatever others did in between
abbrev pub HasMade : Facts → History → History → ℕ → List Step → Type 0
HasMade facts later earlier p steps = making.HasMade pages facts later earlier p steps

-- a load or a take tells what stands when it is made; so does an exchange, which wins where the group holds the list or
-- the list is eight zeros, and loses where the group holds another
abbrev pub Tells : Facts → History → ℕ → Step → Type 0
Tells facts h p (LoadT g t a) = (c : CpuId) → owner_in role h p ≡ Some c →
    (threshold_at (state_after facts h) c.number g.number ≡ t)
    × (threshold_sets_at (state_after facts h) c.number g.number ≡ a)
Tells facts h p (LoadD c j w) = TellsGroup (state_after facts h) c.number j.number w.values
Tells facts h p (Take c j w) = TellsGroup (state_after facts h) c.number j.number w.values
Tells facts h p (Put k w t delta how) = (c : CpuId) → owner_in role h p ≡ Some c →
    TellsGroup (state_after facts h) c.number (group_of k.number) w.values ⊎ (w.values ≡ eight_zeros)
Tells facts h p (Miss j w) = (c : CpuId) → owner_in role h p ≡ Some c →
    TellsGroup (state_after facts h) c.number j.number w.values → ⊥
Tells facts h p (LoadG k v) = value_at (state_after facts h) k.number ≡ v
Tells facts h p (LoadS i v) = system_at (state_after facts h) i.number ≡ v
Tells facts h p (LoadM g m a) =
    (mark_at (state_after facts h) g.number ≡ m) × (mark_sets_at (state_after facts h) g.number ≡ a)
Tells facts h p (LoadO c x) = cpu_at (state_after facts h) c.number ≡ x
Tells facts h p (LoadA c g x) = acknowledged_at (state_after facts h) c.number g.number ≡ x
Tells facts h p _ = Unit {0}

-- from this history on pass p may make these steps: once it has made some of them, and whatever others did in between,
-- the next one may be made if it tells what stands, and the history with it is legal
abbrev pub MayMake : Facts → ℕ → History → List Step → Type 0
MayMake facts p earlier steps = making.MayMake pages Tells facts p earlier steps

-- the same of a call of which the first steps alone are known: whichever steps may still follow, the next one may be
-- made if it tells what stands
abbrev pub MayBegin : Facts → ℕ → History → (List Step → Type 0) → Type 0
MayBegin facts p earlier IsCall = making.MayBegin pages Tells facts p earlier IsCall

-- a pass lives in a legal history
pub record IsLivePass (facts : Facts) (h : History) (p : ℕ) : Type 0 where
  pub legal : IsLegal facts h
  pub lives : lives_in role h p ≡ true

-- the control pass lives in a legal history
pub record ControlsIn (facts : Facts) (h : History) (p : ℕ) : Type 0 where
  pub living : IsLivePass facts h p
  pub control : IsControl h p
