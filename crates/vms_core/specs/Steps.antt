-- What each kind of step does to the passes and to the state.
use Rattle.std.specs.Prelude.{◌+ℤ◌, Option, Some, None}
use Rattle.vms_history.specs.Common.{CpuId, Absent, Role, Works, Begins, Ends}
use Rattle.vms_core.specs.declared.states.State.{State}
use Rattle.vms_core.specs.declared.steps.Step.{Step}
use Rattle.vms_core.specs.declared.steps.Step.TheVariants.{Put, AddG, AddS, Take, SetT, SetM, SetO, SetA, Split, Join}
use Rattle.vms_core.specs.declared.steps.Facts.{Facts}
use Rattle.vms_core.specs.Cells.{value_at, system_at, entry, with_value, with_system, with_diff, with_group_zeroed}
use Rattle.vms_core.specs.Cells.{with_threshold, with_mark, with_cpu, with_acknowledged}
use Rattle.vms_core.specs.Changes.{differential_after}

-- a Split begins a pass and a Join ends one
abbrev pub role : Step → Role
role (Split q who) = Begins q who
role (Join q) = Ends q
role _ = Works

-- the state after a step of a pass that owns a CPU
abbrev pub own_effect : CpuId → Step → State → State
own_effect c (Put k w t delta how) s =
    with_diff s c.number k.number (differential_after how t (entry w.values k.number) delta)
own_effect c (SetA g a) s = with_acknowledged s c.number g.number a
own_effect c _ s = s

-- the state after a step that needs no CPU of its own
abbrev pub effect_of : Step → State → State
effect_of (AddG k a) s = with_value s k.number (value_at s k.number +ℤ a)
effect_of (AddS i a) s = with_system s i.number (system_at s i.number +ℤ a)
effect_of (Take c j w) s = with_group_zeroed s c.number j.number
effect_of (SetT c g t) s = with_threshold s c.number g.number t
effect_of (SetM g m) s = with_mark s g.number m
effect_of (SetO c) s = with_cpu s c.number Absent
effect_of _ s = s

-- the state after a step: every kind that isn't named above leaves it
abbrev pub effect : Facts → Option CpuId → Step → State → State
effect facts None k s = effect_of k s
effect facts (Some c) k s = own_effect c k (effect_of k s)
