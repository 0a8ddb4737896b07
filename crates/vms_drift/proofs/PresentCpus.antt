-- Each number is off by at most what the CPUs that are present hide and what is carried.
use Rattle.std.proofs.Common.{◌≡◌, ℕ, suc, ◌*◌, ◌<◌, ◌≤◌, Bool, true, false, pos, refl, arith, if◌then◌else◌, nat_eq}
use Rattle.std.proofs.Common.{unsigned_abs}
use Rattle.std.proofs.lemmas.Int.{ints}
use Rattle.vms_base.specs.Cpus.{is_present}
use Rattle.vms_calls.specs.Common.{Absent, CpuState, Dead, Facts, History, IsCounter, IsLayout, Online, begun_in}
use Rattle.vms_calls.specs.Common.{carried, carried_by_all, carried_of_item, counter_count, cpu_at, diff_at}
use Rattle.vms_calls.specs.Common.{differentials, item_of, most_threshold, own, pages, place_of, role, state_after}
use Rattle.vms_core.specs.Pages.{IsLegal, carried_of_item_by_all}
use Rattle.vms_core.specs.Drift.{carried_of_item_sizes, carried_sizes}
use Rattle.vms_core.specs.Totals.{differentials_of_item}
use Rattle.vms_base.proofs.Common.{place_of-lt}
use Rattle.vms_core.proofs.Common.{laws-kept}
use Rattle.vms_drift.proofs.CpuCounts.{count-times}
use Rattle.vms_drift.proofs.ItemCounters.{item-most}
use Rattle.vms_drift.proofs.Nearness.{near}
use Rattle.vms_drift.specs.PresentCpus.{CountersAreNear, ItemsAreNear, most_hidden, parts_of}
use Rattle.vms_history.proofs.Common.{base_can_begin, sum_below-sizes}

module _ (facts : Facts) (h : History) (legal : IsLegal facts h) where
  is_layout : IsLayout facts.layout
  is_layout = (base_can_begin pages facts h legal).layout

  -- a CPU that is absent hides nothing, and any other at most 125 pages of a counter
  one_hides : (c k : ℕ) → c < facts.layout.cpus → IsCounter facts.layout k
      → unsigned_abs (diff_at (state_after facts h) c k)
      ≤ (if is_present (cpu_at (state_after facts h) c) then most_threshold else 0)
  one_hides c k c_in k_in = by (cpu_at (state_after facts h) c) refl
    where
      open laws-kept facts h legal use {by_peaks, peaks, absent}

      small : unsigned_abs (diff_at (state_after facts h) c k) ≤ most_threshold
      small = omega (
        arith,
        (by_peaks c k c_in k_in).differential,
        (by_peaks c k c_in k_in).last,
        peaks c (place_of facts.layout k) c_in (place_of-lt facts.layout is_layout k k_in),
      )

      by : (x : CpuState) → cpu_at (state_after facts h) c ≡ x
          → unsigned_abs (diff_at (state_after facts h) c k) ≤ (if is_present x then most_threshold else 0)
      by Absent is = let none = absent c k c_in k_in is in rw none (omega arith)
      by Online is = small
      by Dead is = small

  all_hide : (k : ℕ) → IsCounter facts.layout k
      → unsigned_abs (differentials facts.layout (state_after facts h) k)
      ≤ most_hidden facts.layout (state_after facts h)
  all_hide k k_in = omega (
    arith,
    sum_below-sizes (λ c. diff_at (state_after facts h) c k)
        (λ c. if is_present (cpu_at (state_after facts h) c) then most_threshold else 0) facts.layout.cpus
        (λ c c_in. one_hides c k c_in k_in),
    count-times (λ c. is_present (cpu_at (state_after facts h) c)) most_threshold facts.layout.cpus,
  )

  pub counters-near : CountersAreNear facts h
  counters-near k k_in =
      let carried_within : unsigned_abs (carried_by_all h k) ≤ carried_sizes h k =
      sum_below-sizes (λ p. carried k (own h p)) (λ p. unsigned_abs (carried k (own h p))) (suc (begun_in role h))
      (λ p below. omega arith) in
      near _ _ _ (omega (arith, ints, (laws-kept facts h legal).totals k k_in, all_hide k k_in, carried_within))

  -- so all CPUs hide of an item at most so much for each of its counters
  all_hide_of_item : (i : ℕ) → unsigned_abs (differentials_of_item facts.layout (state_after facts h) i)
      ≤ parts_of facts.layout i * most_hidden facts.layout (state_after facts h)
  all_hide_of_item i = omega (
    arith,
    sum_below-sizes (λ k. if nat_eq (item_of facts.layout k) i then differentials facts.layout (state_after facts h) k
        else pos 0)
        (λ k. if nat_eq (item_of facts.layout k) i then most_hidden facts.layout (state_after facts h) else 0)
        (counter_count facts.layout) (λ k k_in. one (nat_eq (item_of facts.layout k) i) k (all_hide k k_in)),
    item-most facts.layout is_layout i (most_hidden facts.layout (state_after facts h)),
  )
    where
      one : (b : Bool) (k : ℕ) → unsigned_abs (differentials facts.layout (state_after facts h) k)
          ≤ most_hidden facts.layout (state_after facts h)
          → unsigned_abs (if b then differentials facts.layout (state_after facts h) k else pos 0)
          ≤ (if b then most_hidden facts.layout (state_after facts h) else 0)
      one true k small = small
      one false k small = omega arith

  pub items-near : ItemsAreNear facts h
  items-near i i_in =
      let shape = facts.layout in
      let carried_within : unsigned_abs (carried_of_item_by_all shape h i) ≤ carried_of_item_sizes shape h i =
      sum_below-sizes (λ p. carried_of_item shape i (own h p))
      (λ p. unsigned_abs (carried_of_item shape i (own h p))) (suc (begun_in role h)) (λ p below. omega arith) in
      near _ _ _
      (omega (arith, ints, (laws-kept facts h legal).system_totals i i_in, all_hide_of_item i, carried_within))
