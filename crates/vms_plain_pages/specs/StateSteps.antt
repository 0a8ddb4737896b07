-- What the steps on the page counters tell and do, by the state and by the CPU that their caller owns.
use Rattle.std.specs.Prelude.{◌≡◌, ℕ, ◌⊎◌, Option, Some, None, refl}
use Rattle.vms_calls.specs.Common.{CpuId, group_of, owner_in, ByState, IsByState, State, Facts, Step, LoadT, LoadD, Put}
use Rattle.vms_calls.specs.Common.{Miss, Take, SetA, LoadG, LoadS, LoadM, LoadO, LoadA, TellsGroup, value_at, system_at}
use Rattle.vms_calls.specs.Common.{threshold_at, threshold_sets_at, mark_at, mark_sets_at, cpu_at, acknowledged_at}
use Rattle.vms_calls.specs.Common.{eight_zeros, pages, History, state_after, role, effect_of, own_effect}
use Rattle.vms_core.specs.Steps as steps
use Rattle.vms_calls.specs.MayMake as making

-- a load or a take tells what stands; so does an exchange, which wins where the group holds the list or the list is
-- eight zeros, and loses where the group holds another
abbrev pub TellsByState : Option CpuId → State → Step → Type 0
TellsByState who s (LoadT g t a) = (c : CpuId) → who ≡ Some c →
    (threshold_at s c.number g.number ≡ t) × (threshold_sets_at s c.number g.number ≡ a)
TellsByState who s (LoadD c j w) = TellsGroup s c.number j.number w.values
TellsByState who s (Take c j w) = TellsGroup s c.number j.number w.values
TellsByState who s (Put k w t delta how) = (c : CpuId) → who ≡ Some c →
    TellsGroup s c.number (group_of k.number) w.values ⊎ (w.values ≡ eight_zeros)
TellsByState who s (Miss j w) = (c : CpuId) → who ≡ Some c → TellsGroup s c.number j.number w.values → ⊥
TellsByState who s (LoadG k v) = value_at s k.number ≡ v
TellsByState who s (LoadS i v) = system_at s i.number ≡ v
TellsByState who s (LoadM g m a) = (mark_at s g.number ≡ m) × (mark_sets_at s g.number ≡ a)
TellsByState who s (LoadO c x) = cpu_at s c.number ≡ x
TellsByState who s (LoadA c g x) = acknowledged_at s c.number g.number ≡ x
TellsByState who s _ = Unit {0}

-- what a step does that needs a CPU of its own: a put and an acknowledgement alone are such steps
abbrev pub own_part : Step → Option CpuId → State → State
own_part (Put k w t delta how) (Some c) s = own_effect c (Put k w t delta how) s
own_part (SetA g a) (Some c) s = own_effect c (SetA g a) s
own_part _ _ s = s

-- the state after a step
abbrev pub effect_by : Option CpuId → Step → State → State
effect_by who step s = own_part step who (effect_of step s)

-- the page counters by state
abbrev pub pages_by_state : ByState Step State
pages_by_state = record { Tells = TellsByState; effect = effect_by }

tells-in_history : (facts : Facts) (h : History) (p : ℕ) (step : Step)
    → TellsByState (owner_in role h p) (state_after facts h) step → making.Tells facts h p step
tells-in_history facts h p (LoadT g t a) told = told
tells-in_history facts h p _ told = told

effect_by-in_history : (facts : Facts) (who : Option CpuId) (step : Step) (s : State)
    → steps.effect facts who step s ≡ effect_by who step s
effect_by-in_history facts None (Put k w t delta how) s = refl
effect_by-in_history facts None _ s = refl
effect_by-in_history facts (Some c) (Put k w t delta how) s = refl
effect_by-in_history facts (Some c) _ s = refl

-- their steps tell and do that wherever they are made
pub pages_are_by_state : IsByState pages making.Tells pages_by_state
pages_are_by_state = record { tells = tells-in_history; effect = effect_by-in_history }
