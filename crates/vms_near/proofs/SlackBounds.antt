-- For other crates too: each counter of a zone is off by at most the slack of the zone and what is carried for it, and
-- tells its true total but for that.
use Rattle.std.proofs.Common.{◌≡◌, ◌≢◌, ℕ, zero, suc, ◌-◌, ◌<◌, ◌≤◌, Bool, true, false, nat_eq, eqb-true, ℤ, pos}
use Rattle.std.proofs.Common.{negsuc, ◌≤ℤ◌, unsigned_abs, refl, arith, if◌then◌else◌}
use Rattle.std.proofs.lemmas.Bool.Decides.{nat_tests}
use Rattle.std.proofs.lemmas.Int.{ints}
use Rattle.vms_calls.specs.Common.{ZoneSize, Covers, IsCounter, IsZone, place_of, gap_of, size_at, at_least_zero, Facts}
use Rattle.vms_calls.specs.Common.{diff_at, mark_at, value_at, carried, carried_by_all, role, History, state_after}
use Rattle.vms_calls.specs.Common.{peak_sum, differentials, begun_in, count_below, own, sum_below}
use Rattle.vms_core.specs.Drift.{carried_sizes}
use Rattle.vms_core.specs.Pages.{IsLegal}
use Rattle.vms_core.proofs.Common.{laws-kept}
use Rattle.vms_history.proofs.Common.{sum_below-sizes}
use Rattle.vms_near.specs.Slack.{BoundsByMarks, ValuesTell, positive_carried, slack_at}
use Rattle.vms_near.proofs.HidingBounds.{slack-covers}

-- integers add up to at most those of them that are above 0
positive-most : (f : ℕ → ℤ) (n : ℕ) → sum_below f n ≤ℤ pos (count_below (λ i. at_least_zero (f i)) n)
positive-most f zero = omega (arith, ints)
positive-most f (suc n) = omega (arith, ints, one (f n), positive-most f n)
  where
    one : (z : ℤ) → z ≤ℤ pos (at_least_zero z)
    one (pos m) = omega (arith, ints)
    one (negsuc m) = omega (arith, ints)

-- a number as it is told, where it isn't told as 0, and in any case
told-least : (z : ℤ) → at_least_zero z ≢ 0 → pos (at_least_zero z) ≤ℤ z
told-least (pos n) some = omega (arith, ints)
told-least (negsuc n) some = absurd (some refl)

told-most : (z : ℤ) → z ≤ℤ pos (at_least_zero z)
told-most (pos n) = omega (arith, ints)
told-most (negsuc n) = omega (arith, ints)

module _ (facts : Facts) (h : History) (k : ℕ) (legal : IsLegal facts h) (k_in : IsCounter facts.layout k)
    (zone : IsZone facts.layout (place_of facts.layout k)) where
  -- what the CPUs hide of the counter
  pub differentials-within : unsigned_abs (differentials facts.layout (state_after facts h) k)
      ≤ slack_at facts h (place_of facts.layout k)
  differentials-within =
      let g = place_of facts.layout k in
      let sizes = sum_below-sizes (λ c. diff_at (state_after facts h) c k)
      (λ c. unsigned_abs (diff_at (state_after facts h) c k)) facts.layout.cpus (λ c c_in. omega arith) in
      let hidden = (laws-kept facts h legal).hidden k k_in in
      let covered = slack-covers (size_at facts.sizes g) (mark_at (state_after facts h) g) (peak_sum facts g h)
      ((laws-kept facts h legal).covers g zone) in
      omega (arith, sizes, hidden, covered)

  carried-within : unsigned_abs (carried_by_all h k) ≤ carried_sizes h k
  carried-within =
      sum_below-sizes (λ p. carried k (own h p)) (λ p. unsigned_abs (carried k (own h p))) (suc (begun_in role h))
      (λ p below. omega arith)

  carried-most : carried_by_all h k ≤ℤ pos (positive_carried h k)
  carried-most = positive-most (λ p. carried k (own h p)) (suc (begun_in role h))

pub marks-bound : (facts : Facts) (h : History) → IsLegal facts h → BoundsByMarks facts h
marks-bound facts h legal k k_in zone =
    let total = (laws-kept facts h legal).totals k k_in in
    let hides = differentials-within facts h k legal k_in zone in
    let carries = carried-within facts h k legal k_in zone in
    omega (arith, ints, total, hides, carries)

pub values-tell : (facts : Facts) (h : History) → IsLegal facts h → ValuesTell facts h
values-tell facts h legal k k_in zone =
    let value = value_at (state_after facts h) k in
    let hides = differentials-within facts h k legal k_in zone in
    record {
      least = λ some.
          let least = told-least value some in
          let excess = (laws-kept facts h legal).excess k k_in in
          omega (arith, ints, least, excess, hides);
      most =
          let most = told-most value in
          let total = (laws-kept facts h legal).totals k k_in in
          let carries = carried-most facts h k legal k_in zone in
          omega (arith, ints, most, total, carries, hides);
    }
