-- What a burial makes in the tables of events and of percpu counters, and what stands in all three after it.
use Rattle.std.specs.Prelude.{◌≡◌, ℕ, pos, List}
use Rattle.vms_world.specs.Common.{CpuId, Absent, IsCounter, cpu_at, diff_at, MovesOnce, EventFacts, EventStep}
use Rattle.vms_world.specs.Common.{IsLowestOnline, IsFoldEvents, PcpuFacts, PcpuStep, IsFoldDead, percpu}
use Rattle.vms_core.specs.Pages.{state_after}
use Rattle.vms_event_core.specs.Events as event_histories
use Rattle.vms_event.specs.FoldedCpus as events
use Rattle.vms_pcpu_core.specs.States.{counters_of}
use Rattle.vms_pcpu.specs.Answers as counters
use Rattle.vms_seats.specs.Common.{Pass, Made}
use Rattle.vms_burial.specs.declared.passes.ControlPasses.{ControlPasses}

-- the CPU's events have moved to the lowest-numbered CPU that is online
pub record FoldsDeadEvents (facts : EventFacts) (new old : Pass EventFacts EventStep) (cpu : CpuId) : Type 0 where
  pub into : CpuId
  pub is_lowest : IsLowestOnline facts into.number
  pub found : List ℕ
  pub steps : List EventStep
  pub folds : IsFoldEvents cpu into found steps
  pub made : Made event_histories.events new old steps

-- its local parts have moved to the shared parts
pub record FoldsDeadLocals (facts : PcpuFacts) (new old : Pass PcpuFacts PcpuStep) (cpu : CpuId) : Type 0 where
  pub steps : List PcpuStep
  pub folds : IsFoldDead cpu (counters_of facts.base) steps
  pub made : Made percpu new old steps

-- the CPU is absent, and all that it had moved once, whoever else folded it: its differentials, its events and its
-- local parts, of which none is left
pub record IsBuried (passes : ControlPasses) (cpu : CpuId) : Type 0 where
  pub absent : cpu_at (state_after passes.page.facts passes.page.seen) cpu.number ≡ Absent
  pub none_left : (k : ℕ) → IsCounter passes.page.facts.layout k →
      diff_at (state_after passes.page.facts passes.page.seen) cpu.number k ≡ pos 0
  pub moved_once : (k : ℕ) → IsCounter passes.page.facts.layout k →
      MovesOnce passes.page.facts passes.page.seen cpu.number k
  pub events : events.HasFoldedDead passes.event cpu
  pub counters : counters.HasFoldedDead passes.pcpu cpu
