-- What each kind of step does to the passes and to the state.
use Rattle.std.specs.Prelude.{true, false, ℤ, pos, ◌+ℤ◌, Option, Some, None}
use Rattle.vms_history.specs.Common.{CpuId, PcpuId, Role, Works, Begins, Ends}
use Rattle.vms_pcpu_core.specs.declared.steps.PcpuFacts.{PcpuFacts}
use Rattle.vms_pcpu_core.specs.declared.steps.PcpuStep.{PcpuStep}
use Rattle.vms_pcpu_core.specs.declared.steps.PcpuStep.TheVariants.{AddL, Won, TakeL, AddC, Unlock, Split, Join}
use Rattle.vms_pcpu_core.specs.States.{LockedState, count_at, local_at, with_count, with_local, with_held}

-- a Split begins a pass and a Join ends one
abbrev pub role : PcpuStep → Role
role (Split q who) = Begins q who
role (Join q) = Ends q
role _ = Works

-- an amount is added to the local part of the CPU that the pass owns
abbrev pub with_own_added : Option CpuId → PcpuId → ℤ → LockedState → LockedState
with_own_added None j a s = s
with_own_added (Some c) j a s = with_local s c.number j.number (local_at s.numbers c.number j.number +ℤ a)

-- the state after a step: every kind that isn't named leaves it
abbrev pub effect : PcpuFacts → Option CpuId → PcpuStep → LockedState → LockedState
effect facts who (AddL j a) s = with_own_added who j a s
effect facts who (Won j) s = with_held s j.number true
effect facts who (TakeL j c v) s = with_local s c.number j.number (pos 0)
effect facts who (AddC j a) s = with_count s j.number (count_at s.numbers j.number +ℤ a)
effect facts who (Unlock j) s = with_held s j.number false
effect facts who _ s = s
