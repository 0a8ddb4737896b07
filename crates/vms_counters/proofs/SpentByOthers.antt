-- What a CPU has spent in a table is told by the steps of its own passes, and by no other's.
use Rattle.std.proofs.Common.{◌≡◌, ◌≢◌, ℕ, Bool, true, false, nat_eq, Option, Some, None, ℤ, refl, ap, arith, eqb-true}
use Rattle.vms_world.specs.Common.{CpuId, PcpuStep, events, own, owner_in, pages, percpu}
use Rattle.vms_core.proofs.KnowledgeKept as page_steps
use Rattle.vms_core.specs.Steps.{role}
use Rattle.vms_event_core.proofs.Common.{spent_by-others}
use Rattle.vms_event_core.specs.Steps as event_steps
use Rattle.vms_pcpu_core.specs.Own.{carried}
use Rattle.vms_pcpu_core.specs.Totals.{spent_by}
use Rattle.vms_pcpu_core.specs.Steps as pcpu_steps
use Rattle.vms_counters.specs.Opened.{HoldsEvents, HoldsPages, HoldsPcpu}
use Rattle.vms_counters.specs.Owning.{GoesOnWithOthers}

pub pages-others : GoesOnWithOthers pages HoldsPages
pages-others facts cpu volumes e h other holds = record {
  one_each = holds.one_each;
  spent_within = λ k known.
      let none = page_steps.spent_by-others (owner_in role h e.caller) cpu k e.step other in
      omega (arith, none, holds.spent_within k known);
  most = holds.most;
}

pub events-others : GoesOnWithOthers events HoldsEvents
events-others facts cpu volumes e h other holds = record {
  one_each = holds.one_each;
  spent_within = λ k known.
      let none = spent_by-others (owner_in event_steps.role h e.caller) cpu k e.step other in
      omega (arith, none, holds.spent_within k known);
}

-- a pass that owns another CPU, or none, spends nothing of this one
spent-elsewhere : (who : Option CpuId) (cpu : CpuId) → who ≢ Some cpu → (j : ℕ) (carrying : ℤ) (step : PcpuStep)
    → spent_by who cpu.number j carrying step ≡ 0
spent-elsewhere None cpu other j carrying step = refl
spent-elsewhere (Some d) cpu other j carrying step = by (nat_eq d.number cpu.number) refl
  where
    by : (b : Bool) → nat_eq d.number cpu.number ≡ b → spent_by (Some d) cpu.number j carrying step ≡ 0
    by true same = absurd (other (ap (λ n. Some (record { number = n })) (eqb-true d.number cpu.number same)))
    by false differs = rw differs refl

pub counters-others : GoesOnWithOthers percpu HoldsPcpu
counters-others facts cpu volumes e h other holds = record {
  one_each = holds.one_each;
  spent_within = λ j known.
      let none = spent-elsewhere (owner_in pcpu_steps.role h e.caller) cpu other j (carried j (own h e.caller)) e.step
      in
      omega (arith, none, holds.spent_within j known);
}
