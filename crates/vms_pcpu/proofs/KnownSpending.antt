-- For other crates too: what a pass that owns a CPU knows of what the CPU has spent.
use Rattle.std.proofs.Common.{◌≡◌, ◌≢◌, ℕ, Bool, true, false, nat_eq, List, [], ◌++◌, Option, Some, None, ℤ, refl, ap}
use Rattle.std.proofs.Common.{sym, ◌∙◌, subst, arith, eqb-true}
use Rattle.vms_history.specs.Common.{CpuId, own, owner_in, IsFree}
use Rattle.vms_history.proofs.Common.{holds_while_free}
use Rattle.vms_pcpu_core.specs.declared.steps.PcpuFacts.{PcpuFacts}
use Rattle.vms_pcpu_core.specs.declared.steps.PcpuStep.{PcpuStep}
use Rattle.vms_pcpu_core.specs.declared.steps.PcpuStep.TheVariants.{Split}
use Rattle.vms_pcpu_core.specs.Common.{percpu, History, IsLegal, carried, IsIdle, role, is_owned, spent, spent_by}
use Rattle.vms_pcpu.specs.Common.{HoldsSpending, IsReady, IsCpuPass}
use Rattle.vms_seats.specs.Common.{HasBegun, next_number, Pass}
use Rattle.vms_seats.proofs.Common.{begun-keeps}

-- a pass that owns another CPU, or none, spends nothing of this one
spent-elsewhere : (who : Option CpuId) (cpu : CpuId) → who ≢ Some cpu → (j : ℕ) (carrying : ℤ) (step : PcpuStep)
    → spent_by who cpu.number j carrying step ≡ 0
spent-elsewhere None cpu elsewhere j carrying step = refl
spent-elsewhere (Some d) cpu elsewhere j carrying step = by (nat_eq d.number cpu.number) refl
  where
    by : (b : Bool) → nat_eq d.number cpu.number ≡ b → spent_by (Some d) cpu.number j carrying step ≡ 0
    by true same =
        absurd (elsewhere (ap (λ n. Some (record { number = n })) (eqb-true d.number cpu.number same)))
    by false differs = rw differs refl

-- while nobody owns a CPU, nobody spends anything of it
pub spent-free : (facts : PcpuFacts) (h : History) (cpu : CpuId) → IsFree role h (Some cpu) → (m : History)
    → IsLegal facts (m ++ h) → own m 0 ≡ [] → (j : ℕ) → spent (m ++ h) cpu.number j ≡ spent h cpu.number j
spent-free facts h cpu free =
    holds_while_free percpu facts h (Some cpu) free
    (λ g. (j : ℕ) → spent g cpu.number j ≡ spent h cpu.number j)
    (λ e m legal others elsewhere same j.
    let none = spent-elsewhere (owner_in role (m ++ h) e.caller) cpu elsewhere j
    (carried j (own (m ++ h) e.caller)) e.step in
    omega (arith, none, same j))
    (λ j. refl)

pub split-spends_nothing : (who owner : Option CpuId) (q c j : ℕ) (carrying : ℤ)
    → spent_by owner c j carrying (Split q who) ≡ 0
split-spends_nothing who owner q c j carrying = by (is_owned owner c) refl
  where
    by : (b : Bool) → is_owned owner c ≡ b → spent_by owner c j carrying (Split q who) ≡ 0
    by true is = rw is refl
    by false is = rw is refl

pub nothing-idle : IsIdle []
nothing-idle = record { no_lock = λ j. refl; nothing_carried = λ j. refl }

-- a pass that has begun is ready
pub begun-ready : (new old pass : Pass PcpuFacts PcpuStep) (who : Option CpuId)
    → HasBegun percpu Split new old pass who → IsReady pass
begun-ready new old pass who begun = record {
  live = begun.live;
  idle = subst IsIdle (sym begun.no_steps) nothing-idle;
}

-- where the volumes hold what its CPU has spent so far, they hold what it knows
pub begun-owns : (new old pass : Pass PcpuFacts PcpuStep) (cpu : CpuId) (volume : List ℕ)
    → HasBegun percpu Split new old pass (Some cpu) → IsFree role old.seen (Some cpu)
    → HoldsSpending old.facts old.seen cpu.number volume → IsCpuPass pass cpu volume
begun-owns new old pass cpu volume begun free holds = record {
  ready = begun-ready new old pass (Some cpu) begun;
  owns = begun.cpu;
  holds = subst (λ facts. HoldsSpending facts pass.seen cpu.number volume) (sym begun.facts) (record {
    one_each = holds.one_each;
    spent_within = λ j j_in. omega (arith, spent_is j, holds.spent_within j j_in);
  });
}
  where
    spent_is : (j : ℕ) → spent pass.seen cpu.number j ≡ spent old.seen cpu.number j
    spent_is j =
        ap (λ g. spent g cpu.number j) begun.seen
        ∙ begun-keeps percpu Split new old pass (Some cpu) begun (λ g. spent g cpu.number j)
        (λ h. let nothing = split-spends_nothing (Some cpu) (owner_in role h 0) (next_number percpu old.seen) cpu.number
        j (carried j (own h 0)) in
        omega (arith, nothing))
        (λ m legal none. spent-free old.facts old.seen cpu free m legal none j)
