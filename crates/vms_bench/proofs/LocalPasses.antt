-- A pass begins that adds to percpu counters, on a CPU that has added nothing.
use Rattle.std.proofs.Common.{◌≡◌, ℕ, ◌<◌, ◌≤◌, List, [], length, replicate, Some, ap, sym, ◌∙◌, subst, arith}
use Rattle.std.proofs.lemmas.List.{length-replicate}
use Rattle.vms_calls.specs.Common.{CpuId, own, owner_in}
use Rattle.vms_history.proofs.Common.{own-on_top}
use Rattle.vms_pcpu_core.specs.declared.steps.PcpuFacts.{PcpuFacts}
use Rattle.vms_pcpu_core.specs.declared.steps.PcpuStep.{PcpuStep}
use Rattle.vms_pcpu_core.specs.declared.steps.PcpuStep.TheVariants.{Split}
use Rattle.vms_pcpu_core.specs.Common.{percpu, History, IsLegal, carried, counters_of, role, spent}
use Rattle.vms_pcpu.specs.Common.{HoldsSpending, begins_it}
use Rattle.vms_pcpu.proofs.Common.{spent-free, split-spends_nothing}
use Rattle.vms_seats.specs.Common.{HasBegun, next_number, Pass}
use Rattle.vms_bench.specs.Common.{IsUnused}
use Rattle.vms_bench_base.proofs.Common.{owns_below-free, begun-owns_below}

-- no volume holds what an unused CPU has spent
pub unused-holds : (facts : PcpuFacts) (h : History) (least cpu : ℕ) (volume : List ℕ) → IsUnused least h → least ≤ cpu
    → counters_of facts.base ≡ 8 → volume ≡ replicate 8 0 → HoldsSpending facts h cpu volume
unused-holds facts h least cpu volume unused past eight none = record {
  one_each = ap length none ∙ length-replicate {A = ℕ} 8 0 ∙ sym eight;
  spent_within = λ j j_in. let unspent = unused.unspent cpu j past in omega (arith, unspent);
}

pub begun-unused : (new old pass : Pass PcpuFacts PcpuStep) (cpu : CpuId) (least next : ℕ)
    → HasBegun percpu Split new old pass (Some cpu) → IsUnused least old.seen → least ≤ next → cpu.number < next
    → IsUnused next new.seen
begun-unused new old pass cpu least next begun unused later within = record {
  owners = begun-owns_below percpu Split begins_it new old pass cpu least next begun unused.owners later within;
  unspent = unspent;
}
  where
    m : History
    m = begun.made.extends.0

    legal_before : IsLegal old.facts begun.made.before
    legal_before = (subst (IsLegal old.facts) begun.made.newest begun.made.legal).0

    unspent : (c j : ℕ) → next ≤ c → spent new.seen c j ≡ 0
    unspent c j past =
        let d : CpuId = record { number = c } in
        let free = owns_below-free role least old.seen d unused.owners (omega (arith, later, past)) in
        let split =
        split-spends_nothing (Some cpu) (owner_in role begun.made.before 0) (next_number percpu old.seen) c j
        (carried j (own begun.made.before 0)) in
        ap (λ g. spent g c j) begun.made.newest
        ∙ omega (arith, split)
        ∙ ap (λ g. spent g c j) begun.made.extends.1
        ∙ spent-free old.facts old.seen d free m (subst (IsLegal old.facts) begun.made.extends.1 legal_before)
        (own-on_top m old.seen 0 [] (ap (λ g. own g 0) (sym begun.made.extends.1) ∙ begun.made.own_same)) j
        ∙ unused.unspent c j (omega (arith, later, past))
