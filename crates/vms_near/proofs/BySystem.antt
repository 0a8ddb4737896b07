-- For other crates too: a system-wide value is as near its true total as CPUs can hide and is in flight, on each side.
use Rattle.std.proofs.Common.{◌≡◌, ◌≢◌, ℕ, suc, ◌+◌, ◌≤◌, Bool, true, false, ℤ, pos, neg_ℤ, ◌+ℤ◌, ◌-ℤ◌, ◌≤ℤ◌, refl, ap}
use Rattle.std.proofs.Common.{arith, subst, eq-eqb, if◌then◌else◌, unsigned_abs, Option, Some, None}
use Rattle.std.proofs.lemmas.Int.{ints}
use Rattle.vms_calls.specs.Common.{CpuId, IsCpu, IsItem, begun_in, count_below, lives_in, own, owner_in, place_of}
use Rattle.vms_calls.specs.Common.{sum_below, at_least_zero, Facts, History, carried_of_item, diff_at, role}
use Rattle.vms_calls.specs.Common.{state_after, system_at}
use Rattle.vms_history.proofs.Common.{count_below-same, count_below-sum, pos-count_below, sum_below-le, sum_below-same}
use Rattle.vms_history.proofs.Common.{sum_below-sum, sum_below-zeros}
use Rattle.vms_core.specs.Pages.{IsLegal, carried_of_item_by_all}
use Rattle.vms_core.specs.Totals.{true_total_of_item}
use Rattle.vms_core.specs.Drift.{size_below_zero}
use Rattle.vms_core.specs.Spending.{is_owner}
use Rattle.vms_core.proofs.Common.{laws-kept, owned-online}
use Rattle.vms_near.specs.Hiding.{item_may_hide, may_hide}
use Rattle.vms_near.specs.ItemFlight.{changing_item, item_in_flight, item_in_flight_of, item_meanwhile}
use Rattle.vms_near.specs.SystemNear.{SystemValuesTellNearly}
use Rattle.vms_near.proofs.Carriers.{item-carrier-lives, of_cpu, one-owner, owner-of}
use Rattle.vms_near.proofs.ItemSums.{item_count, item_count-swapped, item_sum, item_sum-swapped}
use Rattle.vms_near.proofs.OwnItems.{own_item-bounded, within}
use Rattle.vms_near.proofs.Sides.{IsSide, above, below, one-bounded, side-sum, side-zero, sized, tells-within, turned}
use Rattle.vms_near.proofs.Sums.{count_below-at, count_below-swapped, count_below-zeros, sum_below-at}
use Rattle.vms_near.proofs.Sums.{sum_below-swapped}
use Rattle.vms_near.proofs.WithoutCpu.{without_cpu-bounded}

-- whether a pass that owns `who` owns a CPU
abbrev has_cpu : Option CpuId → Bool
has_cpu (Some d) = true
has_cpu None = false

module _ (side : ℤ → ℤ) (part : ℤ → ℕ) (is_side : IsSide side part) where
  -- a number and a change, where it is within a bound but for the change
  beside-change : (z change : ℤ) (most taken : ℕ) → unsigned_abs (z -ℤ change) ≤ most + taken
      → side z ≤ℤ pos (most + (part change + taken))
  beside-change z change most taken bounded =
      let split : z ≡ (z -ℤ change) +ℤ change = omega (arith, ints) in
      omega (
        arith,
        ints,
        bounded,
        ap side split,
        is_side.sums (z -ℤ change) change,
        is_side.sizes (z -ℤ change),
        is_side.parts change,
      )

  module _ (facts : Facts) (h : History) (legal : IsLegal facts h) (i : ℕ) where
    abbrev passes : ℕ
    passes = suc (begun_in role h)

    abbrev hidden : ℕ → ℤ
    hidden c = item_sum facts.layout i (λ k. diff_at (state_after facts h) c k)

    abbrev hides : ℕ → ℕ
    hides c = item_count facts.layout i (λ k. may_hide facts h c (place_of facts.layout k))

    abbrev amount : ℕ → ℤ
    amount p = carried_of_item facts.layout i (own h p)

    lives : (p : ℕ) → amount p ≢ pos 0 → lives_in role h p ≡ true
    lives p some = item-carrier-lives facts h legal i p some

    -- what the owners of a CPU carry, and have in flight
    abbrev took : ℕ → ℕ → ℤ
    took c = of_cpu facts h legal amount lives c

    abbrev flies : ℕ → ℕ → ℕ
    flies c p = if is_owner (owner_in role h p) c then item_in_flight_of part facts h p i else 0

    -- and the passes that own no CPU
    abbrev rest : ℕ → ℤ
    rest p = if has_cpu (owner_in role h p) then pos 0 else amount p

    abbrev rest_flies : ℕ → ℕ
    rest_flies p = if has_cpu (owner_in role h p) then 0 else item_in_flight_of part facts h p i

    -- what one CPU hides and what its owner carries
    own-part : (p : ℕ) (cpu : CpuId) → IsCpu facts.layout cpu.number → owner_in role h p ≡ Some cpu
        → side (hidden cpu.number +ℤ took cpu.number p) ≤ℤ pos (hides cpu.number + flies cpu.number p)
    own-part p cpu cpu_in owns =
        rw (owns, eq-eqb cpu.number cpu.number refl)
        (beside-change (hidden cpu.number +ℤ amount p) (changing_item facts.layout i (own h p)) (hides cpu.number)
        (item_meanwhile facts p i h) (own_item-bounded facts p cpu i cpu_in h legal owns))

    rest-bounded : (p : ℕ) → side (rest p) ≤ℤ pos (rest_flies p)
    rest-bounded p = by (owner_in role h p) refl
      where
        by : (who : Option CpuId) → owner_in role h p ≡ who
            → side (if has_cpu who then pos 0 else amount p)
            ≤ℤ pos (if has_cpu who then 0 else item_in_flight_of part facts h p i)
        by (Some d) is = omega (arith, ints, side-zero side part is_side)
        by None is =
            let bounded = beside-change (amount p) (changing_item facts.layout i (own h p)) 0
            (item_meanwhile facts p i h) (omega (arith, without_cpu-bounded facts p i h legal is)) in
            omega (arith, ints, bounded)

    module _ (c : ℕ) (c_in : IsCpu facts.layout c) where
      alone : side (hidden c) ≤ℤ pos (hides c)
      alone = omega (arith, ints, is_side.sizes (hidden c), within facts 0 (record { number = c }) i c_in h legal)

      cpu-bounded : side (hidden c +ℤ sum_below (took c) passes) ≤ℤ pos (hides c + count_below (flies c) passes)
      cpu-bounded = one-bounded side part is_side (hidden c) (hides c) (took c) (took c) (flies c) passes alone
          (λ p none. omega (arith, ints, ap side none, side-zero side part is_side))
          (λ p given some. of-owner p some) (one-owner facts h legal amount lives c)
        where
          of-owner : (p : ℕ) → took c p ≢ pos 0 → side (hidden c +ℤ took c p) ≤ℤ pos (hides c + flies c p)
          of-owner p some =
              let owner = owner-of facts h legal amount lives c p some in
              subst (λ (d : ℕ). side (hidden d +ℤ took d p) ≤ℤ pos (hides d + flies d p)) owner.here
              (own-part p owner.cpu (rw owner.here c_in) owner.owns)

    -- each pass is one of a CPU or has none
    amount-split : (p : ℕ) → amount p ≡ sum_below (λ c. took c p) facts.layout.cpus +ℤ rest p
    amount-split p = by (owner_in role h p) refl
      where
        by : (who : Option CpuId) → owner_in role h p ≡ who
            → amount p ≡ sum_below (λ c. if is_owner who c then amount p else pos 0) facts.layout.cpus
            +ℤ (if has_cpu who then pos 0 else amount p)
        by (Some d) is =
            let at = sum_below-at (amount p) d.number facts.layout.cpus (owned-online facts h legal p d is).0 in
            omega (arith, ints, at)
        by None is =
            let none = sum_below-zeros (λ c. pos 0) facts.layout.cpus (λ c c_in. refl) in
            omega (arith, ints, none)

    flies-split : (p : ℕ) → item_in_flight_of part facts h p i
        ≡ count_below (λ c. flies c p) facts.layout.cpus + rest_flies p
    flies-split p = by (owner_in role h p) refl (item_in_flight_of part facts h p i)
      where
        by : (who : Option CpuId) → owner_in role h p ≡ who → (n : ℕ)
            → n ≡ count_below (λ c. if is_owner who c then n else 0) facts.layout.cpus
            + (if has_cpu who then 0 else n)
        by (Some d) is n =
            let at = count_below-at n d.number facts.layout.cpus (owned-online facts h legal p d is).0 in
            omega (arith, at)
        by None is n = omega (arith, count_below-zeros facts.layout.cpus)

    all-carried : carried_of_item_by_all facts.layout h i
        ≡ sum_below (λ c. sum_below (took c) passes) facts.layout.cpus +ℤ sum_below rest passes
    all-carried =
        let each = sum_below-same amount (λ p. sum_below (λ c. took c p) facts.layout.cpus +ℤ rest p) passes
        (λ p less. amount-split p) in
        let apart = sum_below-sum (λ p. sum_below (λ c. took c p) facts.layout.cpus) rest passes in
        let swapped = sum_below-swapped (λ p c. took c p) passes facts.layout.cpus in
        omega (arith, ints, each, apart, swapped)

    all-fly : item_in_flight part facts h i
        ≡ count_below (λ c. count_below (flies c) passes) facts.layout.cpus + count_below rest_flies passes
    all-fly =
        let each = count_below-same (λ p. item_in_flight_of part facts h p i)
        (λ p. count_below (λ c. flies c p) facts.layout.cpus + rest_flies p) passes (λ p less. flies-split p) in
        let apart = count_below-sum (λ p. count_below (λ c. flies c p) facts.layout.cpus) rest_flies passes in
        let swapped = count_below-swapped (λ p c. flies c p) passes facts.layout.cpus in
        omega (arith, each, apart, swapped)

    abbrev both : ℕ → ℤ
    both c = hidden c +ℤ sum_below (took c) passes

    abbrev most : ℕ → ℕ
    most c = hides c + count_below (flies c) passes

    module _ (i_in : IsItem facts.layout i) where
      off-is : true_total_of_item facts h i -ℤ system_at (state_after facts h) i
          ≡ sum_below both facts.layout.cpus +ℤ sum_below rest passes
      off-is = omega (
        arith,
        ints,
        (laws-kept facts h legal).system_totals i i_in,
        all-carried,
        item_sum-swapped facts.layout i (λ c k. diff_at (state_after facts h) c k) facts.layout.cpus,
        sum_below-sum hidden (λ c. sum_below (took c) passes) facts.layout.cpus,
      )

      pub system-off : side (true_total_of_item facts h i -ℤ system_at (state_after facts h) i)
          ≤ℤ pos (item_may_hide facts h i + item_in_flight part facts h i)
      system-off =
          let of_cpus : sum_below (λ c. side (both c)) facts.layout.cpus
          ≤ℤ sum_below (λ c. pos (most c)) facts.layout.cpus =
          sum_below-le (λ c. side (both c)) (λ c. pos (most c)) facts.layout.cpus (λ c c_in. cpu-bounded c c_in) in
          let of_rest : sum_below (λ p. side (rest p)) passes ≤ℤ sum_below (λ p. pos (rest_flies p)) passes =
          sum_below-le (λ p. side (rest p)) (λ p. pos (rest_flies p)) passes (λ p less. rest-bounded p) in
          let hiding : item_may_hide facts h i ≡ count_below hides facts.layout.cpus =
          item_count-swapped facts.layout i (λ c k. may_hide facts h c (place_of facts.layout k)) facts.layout.cpus in
          omega (
            arith,
            ints,
            of_cpus,
            of_rest,
            hiding,
            all-fly,
            ap side off-is,
            is_side.sums (sum_below both facts.layout.cpus) (sum_below rest passes),
            side-sum side part is_side both facts.layout.cpus,
            side-sum side part is_side rest passes,
            pos-count_below most facts.layout.cpus,
            pos-count_below rest_flies passes,
            count_below-sum hides (λ c. count_below (flies c) passes) facts.layout.cpus,
          )

pub system_values-tell_nearly : (facts : Facts) (h : History) → IsLegal facts h → SystemValuesTellNearly facts h
system_values-tell_nearly facts h legal i i_in =
    let told = tells-within (system_at (state_after facts h) i) (true_total_of_item facts h i)
    (item_may_hide facts h i + item_in_flight unsigned_abs facts h i)
    (item_may_hide facts h i + item_in_flight at_least_zero facts h i)
    (item_may_hide facts h i + item_in_flight size_below_zero facts h i)
    (system-off (λ z. z) unsigned_abs sized facts h legal i i_in)
    (system-off neg_ℤ unsigned_abs turned facts h legal i i_in)
    (system-off (λ z. z) at_least_zero above facts h legal i i_in)
    (system-off neg_ℤ size_below_zero below facts h legal i i_in) in
    record { signed = told.signed; at_most = told.at_most; at_least = told.at_least }
