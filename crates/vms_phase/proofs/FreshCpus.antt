-- A CPU whose lane has no pass yet has spent nothing in any of the tables.
use Rattle.std.proofs.Common.{◌≡◌, ◌≢◌, ℕ, nat_eq, ◌&&◌, Bool, true, false, List, Option, Some, None, unsigned_abs, ℤ}
use Rattle.std.proofs.Common.{refl, ap, if◌then◌else◌, eqb-true}
use Rattle.vms_world.specs.Common.{CpuId, own, Facts, Step, Put, pages, EventFacts, EventStep, AddE, events, PcpuFacts}
use Rattle.vms_world.specs.Common.{PcpuStep, percpu, Lane, Cpu, is_among}
use Rattle.vms_core.specs.Totals as page_totals
use Rattle.vms_event_core.specs.Totals as event_totals
use Rattle.vms_pcpu_core.specs.Own.{carried}
use Rattle.vms_pcpu_core.specs.Totals as pcpu_totals
use Rattle.vms_seats.specs.Common.{Pass}
use Rattle.vms_file_order.specs.Common.{StandOnce, event_passes, page_passes, pcpu_passes}
use Rattle.vms_phase.specs.Common.{HasBegunLanes}
use Rattle.vms_phase.proofs.BegunLanes.{spent-nothing}

-- another CPU's number is another
number-apart : (d c : CpuId) → Some d ≢ Some c → nat_eq d.number c.number ≡ false
number-apart d c other = by (nat_eq d.number c.number) refl
  where
    by : (b : Bool) → nat_eq d.number c.number ≡ b → nat_eq d.number c.number ≡ false
    by true is =
        let numbers : d.number ≡ c.number = eqb-true d.number c.number is in
        absurd (other (ap (λ n. let who : Option CpuId = Some (record { number = n }) in who) numbers))
    by false is = is

-- a step of a pass that doesn't own the CPU spends nothing of its volumes
page-others : (who : Option CpuId) (c : CpuId) (k : ℕ) (step : Step) → who ≢ Some c
    → page_totals.spent_by who c.number k step ≡ 0
page-others (Some d) c k (Put l w t delta how) other =
    ap (λ (b : Bool). if b && nat_eq l.number k then unsigned_abs delta else 0) (number-apart d c other)
page-others (Some d) c k _ other = refl
page-others None c k _ other = refl

event-others : (who : Option CpuId) (c : CpuId) (k : ℕ) (step : EventStep) → who ≢ Some c
    → event_totals.spent_by who c.number k step ≡ 0
event-others (Some d) c k (AddE l n) other =
    ap (λ (b : Bool). if b && nat_eq l.number k then n else 0) (number-apart d c other)
event-others (Some d) c k _ other = refl
event-others None c k _ other = refl

pcpu-others : (who : Option CpuId) (c : CpuId) (j : ℕ) (carrying : ℤ) (step : PcpuStep) → who ≢ Some c
    → pcpu_totals.spent_by who c.number j carrying step ≡ 0
pcpu-others (Some d) c j carrying step other =
    ap (λ (b : Bool). if b then unsigned_abs (pcpu_totals.amount_of j carrying step) else 0) (number-apart d c other)
pcpu-others None c j carrying step other = refl

module _ (lanes : List Lane) (c : CpuId) (once : StandOnce lanes) (apart : is_among (Cpu c) lanes ≡ false) where
  pub pages-fresh : (main : Pass Facts Step) → HasBegunLanes pages page_passes lanes main → (k : ℕ)
      → page_totals.spent main.seen c.number k ≡ 0
  pages-fresh main has k =
      spent-nothing pages page_passes main.facts lanes c main.seen has.legal once apart has.own_events
      (λ h. page_totals.spent h c.number k) (λ who e h. page_totals.spent_by who c.number k e.step) refl
      (λ e h. refl) (λ who e h other. page-others who c k e.step other)

  pub events-fresh : (main : Pass EventFacts EventStep) → HasBegunLanes events event_passes lanes main → (k : ℕ)
      → event_totals.spent main.seen c.number k ≡ 0
  events-fresh main has k =
      spent-nothing events event_passes main.facts lanes c main.seen has.legal once apart has.own_events
      (λ h. event_totals.spent h c.number k) (λ who e h. event_totals.spent_by who c.number k e.step) refl
      (λ e h. refl) (λ who e h other. event-others who c k e.step other)

  pub counters-fresh : (main : Pass PcpuFacts PcpuStep) → HasBegunLanes percpu pcpu_passes lanes main → (j : ℕ)
      → pcpu_totals.spent main.seen c.number j ≡ 0
  counters-fresh main has j =
      spent-nothing percpu pcpu_passes main.facts lanes c main.seen has.legal once apart has.own_events
      (λ h. pcpu_totals.spent h c.number j)
      (λ who e h. pcpu_totals.spent_by who c.number j (carried j (own h e.caller)) e.step) refl
      (λ e h. refl) (λ who e h other. pcpu-others who c j (carried j (own h e.caller)) e.step other)
