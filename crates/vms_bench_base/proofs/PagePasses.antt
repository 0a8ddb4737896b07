-- A pass begins that changes page counters, on a CPU that has changed nothing.
use Rattle.std.proofs.Common.{◌≡◌, ℕ, ◌<◌, ◌≤◌, Option, Some, None, refl, ap, ◌∙◌, subst, arith}
use Rattle.vms_calls.specs.Common.{CpuId, owner_in, Facts, Step, Split, pages, role, spent, spent_by}
use Rattle.vms_core.specs.Pages.{IsLegal}
use Rattle.vms_core.proofs.Common.{cpu-stands}
use Rattle.vms_seats.specs.Common.{HasBegun, next_number, Pass}
use Rattle.vms_words.specs.Common.{begins_it}
use Rattle.vms_bench_base.specs.Common.{IsUnused}
use Rattle.vms_bench_base.proofs.Beginning.{owns_below-free, begun-owns_below}

split-spends_nothing : (o who : Option CpuId) (q c k : ℕ) → spent_by o c k (Split q who) ≡ 0
split-spends_nothing (Some d) who q c k = refl
split-spends_nothing None who q c k = refl

pub begun-unused : (new old pass : Pass Facts Step) (cpu : CpuId) (least next : ℕ)
    → HasBegun pages Split new old pass (Some cpu) → IsUnused least old.seen → least ≤ next → cpu.number < next
    → IsUnused next new.seen
begun-unused new old pass cpu least next begun unused later within = record {
  owners = begun-owns_below pages Split begins_it new old pass cpu least next begun unused.owners later within;
  unspent = unspent;
}
  where
    legal_before : IsLegal old.facts begun.made.before
    legal_before = (subst (IsLegal old.facts) begun.made.newest begun.made.legal).0

    unspent : (c k : ℕ) → next ≤ c → spent new.seen c k ≡ 0
    unspent c k past =
        let d : CpuId = record { number = c } in
        let free = owns_below-free role least old.seen d unused.owners (omega (arith, later, past)) in
        let stands = (cpu-stands old.facts begun.made.before old.seen
        (record { legal = legal_before; extends = begun.made.extends; own_same = begun.made.own_same })
        d free).volumes k in
        let split =
        split-spends_nothing (owner_in role begun.made.before 0) (Some cpu) (next_number pages old.seen) c k in
        ap (λ g. spent g c k) begun.made.newest
        ∙ omega (arith, split, stands, unused.unspent c k (omega (arith, later, past)))
