-- Why a handle isn't begun. The counters are as they were then.
use Rattle.std.specs.Prelude.{◌≡◌, Some, None}
use Rattle.vms_world.specs.Common.{CpuId, IsFree, MayOwnCpu}
use Rattle.vms_core.specs.Steps.{role}
use Rattle.vms_counters.specs.declared.errors.BeginError.{BeginError}
use Rattle.vms_counters.specs.declared.errors.BeginError.TheVariants.{HasControl, HasHandle, Memory, NotOnline}
use Rattle.vms_counters.specs.Opened.{Opened}
use Rattle.vms_counters.specs.Owning.{IsOut}

-- the CPU is one of the layout and online
abbrev pub IsOnline : Opened → CpuId → Type 0
IsOnline opened cpu = MayOwnCpu opened.mains.pages.facts.layout opened.mains.pages.facts.base.cpu (Some cpu)

-- the CPU isn't online; a pass that lives owns it; or no memory is left, though a handle may begin
abbrev pub RefusesHandle : Opened → Opened → CpuId → BeginError → Type 0
RefusesHandle new old cpu (NotOnline n) = (n ≡ cpu.number) × (IsOnline old cpu → ⊥) × (new ≡ old)
RefusesHandle new old cpu (HasHandle n) = (n ≡ cpu.number) × IsOut role old.mains.pages.seen (Some cpu) × (new ≡ old)
RefusesHandle new old cpu (Memory lack) = IsOnline old cpu × IsFree role old.mains.pages.seen (Some cpu) × (new ≡ old)
RefusesHandle new old cpu HasControl = ⊥

-- a control pass lives; or no memory is left, though none does
abbrev pub RefusesControl : Opened → Opened → BeginError → Type 0
RefusesControl new old HasControl = IsOut role old.mains.pages.seen None × (new ≡ old)
RefusesControl new old (Memory lack) = IsFree role old.mains.pages.seen None × (new ≡ old)
RefusesControl new old _ = ⊥
