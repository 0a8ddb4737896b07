-- The machine of the percpu counters, and its legal histories.
use Rattle.std.specs.Prelude.{List, Option}
use Rattle.vms_history.specs.Common.{CpuId, MayOwnCpu, Machine}
use Rattle.vms_history.specs.declared.events.Event.{Event}
use Rattle.vms_history.specs.Legal as legal
use Rattle.vms_pcpu_core.specs.declared.steps.PcpuFacts.{PcpuFacts}
use Rattle.vms_pcpu_core.specs.declared.steps.PcpuStep.{PcpuStep}
use Rattle.vms_pcpu_core.specs.Bases.{IsBase}
use Rattle.vms_pcpu_core.specs.Conditions.{Meets}
use Rattle.vms_pcpu_core.specs.Own.{HoldsNoLock}
use Rattle.vms_pcpu_core.specs.States.{LockedState, unlocked}
use Rattle.vms_pcpu_core.specs.Steps.{role, effect}

-- a pass may own a CPU that is online, and a control pass may always begin
abbrev pub MayOwn : PcpuFacts → Option CpuId → Type 0
MayOwn facts who = MayOwnCpu facts.layout facts.cpus who

-- the percpu counters' table
abbrev pub percpu : Machine PcpuFacts PcpuStep LockedState
percpu = record {
  role = role;
  base = unlocked;
  effect = effect;
  CanBegin = IsBase;
  MayOwn = MayOwn;
  MayEnd = HoldsNoLock;
  Meets = Meets;
}

-- a history of steps on percpu counters, the newest first
abbrev pub History : Type 0
History = List (Event PcpuStep)

abbrev pub IsLegal : PcpuFacts → History → Type 0
IsLegal facts h = legal.IsLegal percpu facts h

abbrev pub state_after : PcpuFacts → History → LockedState
state_after facts h = legal.state_after percpu facts h
