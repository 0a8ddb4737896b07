-- A pass begins that counts events, on a CPU that has counted nothing.
use Rattle.std.proofs.Common.{◌≡◌, ℕ, ◌<◌, ◌≤◌, [], ◌++◌, Option, Some, None, refl, ap, sym, ◌∙◌, subst, arith}
use Rattle.vms_calls.specs.Common.{CpuId, own, owner_in, IsFree}
use Rattle.vms_history.proofs.Common.{holds_while_free, own-on_top}
use Rattle.vms_event_core.specs.declared.steps.EventFacts.{EventFacts}
use Rattle.vms_event_core.specs.declared.steps.EventStep.{EventStep}
use Rattle.vms_event_core.specs.declared.steps.EventStep.TheVariants.{Split}
use Rattle.vms_event_core.specs.Common.{events, History, IsLegal, role, spent, spent_by}
use Rattle.vms_event_core.proofs.Common.{spent_by-others}
use Rattle.vms_event.specs.Common.{begins_it}
use Rattle.vms_seats.specs.Common.{HasBegun, next_number, Pass}
use Rattle.vms_bench.specs.Events.{IsUnused}
use Rattle.vms_bench_base.proofs.Common.{owns_below-free, begun-owns_below}

split-spends_nothing : (o who : Option CpuId) (q c k : ℕ) → spent_by o c k (Split q who) ≡ 0
split-spends_nothing (Some d) who q c k = refl
split-spends_nothing None who q c k = refl

-- while nobody owns a CPU, nobody counts for it
spent-free : (facts : EventFacts) (h : History) (cpu : CpuId) → IsFree role h (Some cpu) → (m : History)
    → IsLegal facts (m ++ h) → own m 0 ≡ [] → (k : ℕ) → spent (m ++ h) cpu.number k ≡ spent h cpu.number k
spent-free facts h cpu free =
    holds_while_free events facts h (Some cpu) free
    (λ g. (k : ℕ) → spent g cpu.number k ≡ spent h cpu.number k)
    (λ e m legal others elsewhere same k.
    let none = spent_by-others (owner_in role (m ++ h) e.caller) cpu k e.step elsewhere in
    omega (arith, none, same k))
    (λ k. refl)

pub begun-unused : (new old pass : Pass EventFacts EventStep) (cpu : CpuId) (least next : ℕ)
    → HasBegun events Split new old pass (Some cpu) → IsUnused least old.seen → least ≤ next → cpu.number < next
    → IsUnused next new.seen
begun-unused new old pass cpu least next begun unused later within = record {
  owners = begun-owns_below events Split begins_it new old pass cpu least next begun unused.owners later within;
  unspent = unspent;
}
  where
    m : History
    m = begun.made.extends.0

    legal_before : IsLegal old.facts begun.made.before
    legal_before = (subst (IsLegal old.facts) begun.made.newest begun.made.legal).0

    unspent : (c k : ℕ) → next ≤ c → spent new.seen c k ≡ 0
    unspent c k past =
        let d : CpuId = record { number = c } in
        let free = owns_below-free role least old.seen d unused.owners (omega (arith, later, past)) in
        let split =
        split-spends_nothing (owner_in role begun.made.before 0) (Some cpu) (next_number events old.seen) c k in
        ap (λ g. spent g c k) begun.made.newest
        ∙ omega (arith, split)
        ∙ ap (λ g. spent g c k) begun.made.extends.1
        ∙ spent-free old.facts old.seen d free m (subst (IsLegal old.facts) begun.made.extends.1 legal_before)
        (own-on_top m old.seen 0 [] (ap (λ g. own g 0) (sym begun.made.extends.1) ∙ begun.made.own_same)) k
        ∙ unused.unspent c k (omega (arith, later, past))
