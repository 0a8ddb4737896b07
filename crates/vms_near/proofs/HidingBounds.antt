-- The bounds of what the CPUs may hide together.
use Rattle.std.proofs.Common.{◌≡◌, ◌≢◌, ℕ, ◌-◌, ◌*◌, ◌<◌, ◌≤◌, ◌&&◌, Bool, true, false, Some, refl, sym, ap, ◌∙◌, arith}
use Rattle.std.proofs.Common.{eq-eqb, length, lt-ltb, nat_eq, eqb-true, if◌then◌else◌}
use Rattle.std.proofs.lemmas.Bool.Decides.{nat_tests}
use Rattle.vms_calls.specs.Common.{is_online, Absent, CpuState, Dead, Facts, History, IsCpu, IsPlace, IsZone, Online}
use Rattle.vms_calls.specs.Common.{ZoneSize, acknowledged_at, cpu_at, gap_of, mark_at, most_threshold, pages, peak_sum}
use Rattle.vms_calls.specs.Common.{sets, count_below, size_at, state_after, threshold_at, threshold_in, Covers, cpu_in}
use Rattle.vms_calls.specs.Common.{if_present, is_number, peak}
use Rattle.vms_base.specs.Cpus.{is_present}
use Rattle.vms_core.specs.Pages.{IsLegal}
use Rattle.vms_core.proofs.Common.{if_present-least, laws-kept}
use Rattle.vms_drift.specs.NewestThresholds.{KnowsNewest, online_thresholds}
use Rattle.vms_drift.proofs.CpuCounts.{count-times}
use Rattle.vms_history.proofs.Common.{count_below-least, count_below-same}
use Rattle.vms_near.specs.Hiding.{knows_newest, may_hide}
use Rattle.vms_near.specs.HidingBounds.{HidingIsBounded}
use Rattle.vms_near.specs.Slack.{slack_of}

-- a mark covers no more than its slack
pub slack-covers : (size : ZoneSize) (mark hidden : ℕ) → Covers size mark hidden → hidden ≤ slack_of size mark
slack-covers size mark hidden covers = by (nat_eq mark 0) refl
  where
    by : (b : Bool) → nat_eq mark 0 ≡ b → hidden ≤ (if b then gap_of size else mark - size.high)
    by true none = covers.unset (eqb-true mark 0 none)
    by false some =
        let above : 0 < mark = grind (arith, nat_tests, some) in
        omega (arith, covers.set above)

module _ (facts : Facts) (h : History) (legal : IsLegal facts h) (g : ℕ) (g_in : IsPlace facts.layout g) where
  open laws-kept facts h legal use {covers, peaks, thresholds_by_peaks, told_cpus, told_numbers, told_thresholds}

  pub hides-peak : (c : ℕ) → IsCpu facts.layout c
      → may_hide facts h c g ≤ if_present (cpu_in facts c h) (peak facts c g h)
  hides-peak c c_in = if_present-least (cpu_in facts c h)
      (if knows_newest facts h c g then threshold_in facts c g h else peak facts c g h) (peak facts c g h)
      (by (knows_newest facts h c g))
    where
      by : (b : Bool) → (if b then threshold_in facts c g h else peak facts c g h) ≤ peak facts c g h
      by true = omega (arith, told_thresholds c g c_in g_in, thresholds_by_peaks c g c_in g_in)
      by false = omega arith

  hides-most : (c : ℕ) → IsCpu facts.layout c
      → may_hide facts h c g ≤ (if is_present (cpu_at (state_after facts h) c) then most_threshold else 0)
  hides-most c c_in = rw (told_cpus c c_in) (by (cpu_in facts c h)
      (if knows_newest facts h c g then threshold_in facts c g h else peak facts c g h)
      (omega (arith, small (knows_newest facts h c g))))
    where
      small : (b : Bool) → (if b then threshold_in facts c g h else peak facts c g h) ≤ most_threshold
      small true = omega (arith, told_thresholds c g c_in g_in, thresholds_by_peaks c g c_in g_in, peaks c g c_in g_in)
      small false = peaks c g c_in g_in

      by : (x : CpuState) (n : ℕ) → n ≤ most_threshold → if_present x n ≤ (if is_present x then most_threshold else 0)
      by Absent n less = omega arith
      by Online n less = less
      by Dead n less = less

  hides-newest : IsZone facts.layout g → KnowsNewest facts.layout (state_after facts h) g → (c : ℕ)
      → IsCpu facts.layout c
      → may_hide facts h c g
      ≡ (if is_online (cpu_at (state_after facts h) c) then threshold_at (state_after facts h) c g else 0)
  hides-newest zone knows c c_in = rw (sym (told_cpus c c_in)) (by (cpu_at (state_after facts h) c) refl)
    where
      by : (x : CpuState) → cpu_at (state_after facts h) c ≡ x
          → if_present x (if knows_newest facts h c g then threshold_in facts c g h else peak facts c g h)
          ≡ (if is_online x then threshold_at (state_after facts h) c g else 0)
      by Absent is = refl
      by Dead is = absurd (knows.none_dead c c_in is)
      by Online is =
          let told : acknowledged_at (state_after facts h) c g ≡ Some (sets c g h) =
          knows.acknowledged c c_in is ∙ ap (λ n. Some n) (told_numbers c g c_in g_in) in
          rw (told, lt-ltb g (length facts.layout.zones) zone, eq-eqb (sets c g h) (sets c g h) refl)
          (sym (told_thresholds c g c_in g_in))

pub hiding-bounded : (facts : Facts) (h : History) → IsLegal facts h → HidingIsBounded facts h
hiding-bounded facts h legal g g_in = record {
  by_peaks = within;
  by_cpus = omega (
    arith,
    count_below-least (λ c. may_hide facts h c g)
        (λ c. if is_present (cpu_at (state_after facts h) c) then most_threshold else 0) facts.layout.cpus
        (hides-most facts h legal g g_in),
    count-times (λ c. is_present (cpu_at (state_after facts h) c)) most_threshold facts.layout.cpus,
  );
  by_slack = λ zone. omega (
    arith,
    within,
    slack-covers (size_at facts.sizes g) (mark_at (state_after facts h) g) (peak_sum facts g h)
        ((laws-kept facts h legal).covers g zone),
  );
  by_newest = λ zone knows. count_below-same (λ c. may_hide facts h c g)
      (λ c. if is_online (cpu_at (state_after facts h) c) then threshold_at (state_after facts h) c g else 0)
      facts.layout.cpus (hides-newest facts h legal g g_in zone knows);
}
  where
    within : count_below (λ c. may_hide facts h c g) facts.layout.cpus ≤ peak_sum facts g h
    within = count_below-least (λ c. may_hide facts h c g)
        (λ c. if_present (cpu_in facts c h) (peak facts c g h)) facts.layout.cpus (hides-peak facts h legal g g_in)
