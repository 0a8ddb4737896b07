-- What a burial by a control handle makes, and when it is refused.
use Rattle.std.specs.Prelude.{◌≡◌, ◌≢◌, ℕ, ◌≤◌, List}
use Rattle.vms_world.specs.Common.{Buries, CpuId, CpuState, Facts, IsCpu, LoadO, Step, ZoneSize, most_sets, pages}
use Rattle.vms_base.specs.declared.kinds.CpuState.TheVariants.{Dead}
use Rattle.vms_burial.specs.Burials.{IsBuried}
use Rattle.vms_burial.specs.Common.{FoldsDeadEvents, FoldsDeadLocals, passes_of as control_passes_of}
use Rattle.vms_burial.specs.declared.passes.ControlPasses.{ControlPasses}
use Rattle.vms_seats.specs.Common.{Made, MadeOne, Pass}
use Rattle.vms_counters.specs.declared.errors.BuryError.{BuryError}
use Rattle.vms_counters.specs.declared.errors.BuryError.TheVariants.{NoCpu, NotDead, TooOften}
use Rattle.vms_counters.specs.Calls.{layout_of, sets_of}
use Rattle.vms_counters.specs.Handles.{AnyHandle, OnPages, passes_of}

-- the handle found the CPU dead and made the steps of its burial in the three tables
pub record BuriesDead (normal : ZoneSize → ℕ → ℕ → Type 0) (new old : AnyHandle) (cpu : CpuId) : Type 0 where
  pub known : IsCpu (layout_of old.page) cpu.number
  pub tables : new.tables ≡ old.tables
  pub header : new.page.header ≡ old.page.header
  -- the page pass once it had found the CPU dead
  pub found : Pass Facts Step
  pub dead : MadeOne pages found old.page.pass (LoadO cpu Dead)
  pub steps : List Step
  pub buries : Buries old.page.pass.facts normal cpu found.number found.seen steps
  pub made : Made pages new.page.pass found steps
  pub events : FoldsDeadEvents old.event.pass.facts new.event.pass old.event.pass cpu
  pub counters : FoldsDeadLocals old.pcpu.pass.facts new.pcpu.pass old.pcpu.pass cpu
  -- its passes, by which the CPU is absent and all that it had has moved once
  pub passes : ControlPasses
  pub are : control_passes_of passes ≡ passes_of new
  pub buried : IsBuried passes cpu

-- the handle found a CPU in this state, and did no more
pub record FindsState (new old : AnyHandle) (cpu : CpuId) (state : CpuState) : Type 0 where
  pub known : IsCpu (layout_of old.page) cpu.number
  pub header : new.page.header ≡ old.page.header
  pub found : MadeOne pages new.page.pass old.page.pass (LoadO cpu state)
  pub rest : OnPages new old

-- why a CPU isn't buried: the layout has none such, with the handle as it was; or the handle found that it isn't dead,
-- or that it is and that a threshold or a mark was set as often as it may be
abbrev pub RefusesBurial : AnyHandle → AnyHandle → CpuId → BuryError → Type 0
RefusesBurial new old cpu (NoCpu n) =
    (n ≡ cpu.number) × (IsCpu (layout_of old.page) cpu.number → ⊥) × (new ≡ old)
RefusesBurial new old cpu (NotDead n) =
    (n ≡ cpu.number) × ((state : CpuState) × (state ≢ Dead) × FindsState new old cpu state)
RefusesBurial new old cpu TooOften = FindsState new old cpu Dead × (most_sets ≤ sets_of new.page)
