-- Where every CPU knows its newest threshold of a zone, a zone's counter is off by at most these and what is carried.
use Rattle.std.proofs.Common.{◌≡◌, ℕ, suc, ◌+◌, ◌*◌, ◌/◌, ◌<◌, ◌≤◌, max, Some, ◌-ℤ◌, inl, inr, refl, ap, ◌∙◌, arith}
use Rattle.std.proofs.Common.{if◌then◌else◌, unsigned_abs}
use Rattle.std.proofs.Math.Nat.{mul-div-le, mul-le-mul_left}
use Rattle.std.proofs.lemmas.Bool.{cases_lt}
use Rattle.std.proofs.lemmas.Int.{ints}
use Rattle.vms_base.specs.Thresholds.{pressure_threshold_of}
use Rattle.vms_calls.specs.Common.{Absent, CpuState, Dead, Facts, History, IsCounter, IsLayout, IsZone, Online}
use Rattle.vms_calls.specs.Common.{ZoneSize, acknowledged_at, begun_in, carried, carried_by_all, cpu_at, diff_at}
use Rattle.vms_calls.specs.Common.{differentials, gap_of, is_online, own, pages, place_of, role, sets, size_at}
use Rattle.vms_calls.specs.Common.{state_after, threshold_at, true_total, value_at}
use Rattle.vms_core.specs.Pages.{IsLegal}
use Rattle.vms_core.specs.Drift.{carried_sizes}
use Rattle.vms_base.proofs.Common.{place_of-lt}
use Rattle.vms_core.proofs.Common.{laws-kept}
use Rattle.vms_drift.proofs.CpuCounts.{count-times}
use Rattle.vms_drift.proofs.Nearness.{near}
use Rattle.vms_drift.specs.NewestThresholds.{HasPressure, KnowsNewest, NewestBoundDrift, PressureBoundsDrift}
use Rattle.vms_drift.specs.NewestThresholds.{online_cpus, online_thresholds}
use Rattle.vms_history.proofs.Common.{base_can_begin, count_below-least, sum_below-sizes}

-- n thresholds for pressure of n CPUs: the pages between `min` and `low`, or a page for each
pressure-within : (size : ZoneSize) (n : ℕ) → n * pressure_threshold_of size n ≤ max (gap_of size) n
pressure-within size n = elim (cases_lt (gap_of size / n) 1) [
  | inl none ↦
      let one : pressure_threshold_of size n ≤ 1 = omega arith in
      omega (arith, mul-le-mul_left n one)
  | inr some ↦
      let part : pressure_threshold_of size n ≤ gap_of size / n = omega arith in
      omega (arith, mul-le-mul_left n part, mul-div-le (gap_of size) n)
]

module _ (facts : Facts) (h : History) (legal : IsLegal facts h) (k : ℕ) (k_in : IsCounter facts.layout k)
    (in_zone : IsZone facts.layout (place_of facts.layout k))
    (knows : KnowsNewest facts.layout (state_after facts h) (place_of facts.layout k)) where
  is_layout : IsLayout facts.layout
  is_layout = (base_can_begin pages facts h legal).layout

  -- a CPU hides at most its threshold, and nothing if it isn't online
  one_hides : (c : ℕ) → c < facts.layout.cpus
      → unsigned_abs (diff_at (state_after facts h) c k)
      ≤ (if is_online (cpu_at (state_after facts h) c) then threshold_at (state_after facts h) c
      (place_of facts.layout k) else 0)
  one_hides c c_in = by (cpu_at (state_after facts h) c) refl
    where
      open laws-kept facts h legal use {differentials, used, told_numbers, absent}

      by : (x : CpuState) → cpu_at (state_after facts h) c ≡ x
          → unsigned_abs (diff_at (state_after facts h) c k)
          ≤ (if is_online x then threshold_at (state_after facts h) c (place_of facts.layout k) else 0)
      by Absent is = let none = absent c k c_in k_in is in rw none (omega arith)
      by Dead is = absurd (knows.none_dead c c_in is)
      by Online is =
          let told : acknowledged_at (state_after facts h) c (place_of facts.layout k)
          ≡ Some (sets c (place_of facts.layout k) h) =
          knows.acknowledged c c_in is
          ∙ ap (λ n. Some n) (told_numbers c (place_of facts.layout k) c_in (place_of-lt facts.layout is_layout k k_in))
          in
          omega (arith, differentials c k c_in k_in, used c k c_in k_in in_zone told)

  all_hide : unsigned_abs (differentials facts.layout (state_after facts h) k)
      ≤ online_thresholds facts.layout (state_after facts h) (place_of facts.layout k)
  all_hide = sum_below-sizes (λ c. diff_at (state_after facts h) c k)
      (λ c. if is_online (cpu_at (state_after facts h) c) then threshold_at (state_after facts h) c
      (place_of facts.layout k) else 0) facts.layout.cpus one_hides

  carried_within : unsigned_abs (carried_by_all h k) ≤ carried_sizes h k
  carried_within =
      sum_below-sizes (λ p. carried k (own h p)) (λ p. unsigned_abs (carried k (own h p))) (suc (begun_in role h))
      (λ p below. omega arith)

  newest_near : unsigned_abs (value_at (state_after facts h) k -ℤ true_total facts h k)
      ≤ online_thresholds facts.layout (state_after facts h) (place_of facts.layout k) + carried_sizes h k
  newest_near = omega (arith, ints, (laws-kept facts h legal).totals k k_in, all_hide, carried_within)

  -- under pressure each of these thresholds is at most the one for pressure
  pressure_sum : HasPressure facts (state_after facts h) (place_of facts.layout k)
      → online_thresholds facts.layout (state_after facts h) (place_of facts.layout k)
      ≤ max (gap_of (size_at facts.sizes (place_of facts.layout k)))
      (online_cpus facts.layout (state_after facts h))
  pressure_sum pressed =
      omega (
        arith,
        count_below-least
            (λ c. if is_online (cpu_at (state_after facts h) c) then threshold_at (state_after facts h) c
            (place_of facts.layout k) else 0)
            (λ c. if is_online (cpu_at (state_after facts h) c) then
            pressure_threshold_of (size_at facts.sizes (place_of facts.layout k))
            (online_cpus facts.layout (state_after facts h)) else 0)
            facts.layout.cpus (λ c c_in. by c (cpu_at (state_after facts h) c) (pressed c c_in)),
        count-times (λ c. is_online (cpu_at (state_after facts h) c))
            (pressure_threshold_of (size_at facts.sizes (place_of facts.layout k))
            (online_cpus facts.layout (state_after facts h))) facts.layout.cpus,
        pressure-within (size_at facts.sizes (place_of facts.layout k))
            (online_cpus facts.layout (state_after facts h)),
      )
    where
      by : (c : ℕ) (x : CpuState)
          → (x ≡ Online → threshold_at (state_after facts h) c (place_of facts.layout k)
          ≤ pressure_threshold_of (size_at facts.sizes (place_of facts.layout k))
          (online_cpus facts.layout (state_after facts h)))
          → (if is_online x then threshold_at (state_after facts h) c (place_of facts.layout k) else 0)
          ≤ (if is_online x then pressure_threshold_of (size_at facts.sizes (place_of facts.layout k))
          (online_cpus facts.layout (state_after facts h)) else 0)
      by c Online within = within refl
      by c Dead within = omega arith
      by c Absent within = omega arith

pub newest-near : (facts : Facts) (h : History) → IsLegal facts h → NewestBoundDrift facts h
newest-near facts h legal k k_in in_zone knows = near _ _ _ (newest_near facts h legal k k_in in_zone knows)

pub pressure-near : (facts : Facts) (h : History) → IsLegal facts h → PressureBoundsDrift facts h
pressure-near facts h legal k k_in in_zone knows pressed = near _ _ _
    (omega (
      arith,
      newest_near facts h legal k k_in in_zone knows,
      pressure_sum facts h legal k k_in in_zone knows pressed,
    ))
