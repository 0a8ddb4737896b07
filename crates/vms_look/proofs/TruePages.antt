-- For other crates too: what is true of a zone's free pages where their value stands above the zone's mark.
use Rattle.std.proofs.Common.{ℕ, suc, ◌<◌, ◌≤◌, ℤ, pos, negsuc, ◌+ℤ◌, ◌≤ℤ◌, unsigned_abs, subst, arith}
use Rattle.std.proofs.lemmas.Int.{ints}
use Rattle.vms_calls.specs.Common.{IsZone, counter_at, gap_of, size_at, at_least_zero, Facts, diff_at, mark_at}
use Rattle.vms_calls.specs.Common.{value_at, negative_carried, pages, History, state_after, peak_sum, differentials}
use Rattle.vms_calls.specs.Common.{true_total, count_below}
use Rattle.vms_core.specs.Pages.{IsLegal}
use Rattle.vms_core.proofs.Common.{counter_at-first, first-known, laws-kept}
use Rattle.vms_history.proofs.Common.{sum_below-sizes, base_can_begin}
use Rattle.vms_look.specs.Common.{MarksKeepHigh, NoMarksKeepLimit, free_value}

-- a value that isn't below a number above 0 is not negative
value-least : (z : ℤ) (n : ℕ) → 0 < n → n ≤ at_least_zero z → pos n ≤ℤ z
value-least (pos m) n some least = omega (arith, ints)
value-least (negsuc m) n some least = absurd (omega arith)

module _ (facts : Facts) (h : History) (g : ℕ) (legal : IsLegal facts h) (zone : IsZone facts.layout g) where
  abbrev k : ℕ
  k = counter_at facts.layout g 0

  -- what the CPUs hide of the zone's free pages
  hidden-most : unsigned_abs (differentials facts.layout (state_after facts h) k) ≤ peak_sum facts g h
  hidden-most =
      let layout = (base_can_begin pages facts h legal).layout in
      let k_in = first-known facts.layout layout g (omega arith) in
      let sizes = sum_below-sizes (λ c. diff_at (state_after facts h) c k)
      (λ c. unsigned_abs (diff_at (state_after facts h) c k)) facts.layout.cpus (λ c c_in. omega arith) in
      let within = subst (λ (place : ℕ). count_below (λ c. unsigned_abs (diff_at (state_after facts h) c k))
      facts.layout.cpus ≤ peak_sum facts place h) (counter_at-first facts.layout layout g)
      ((laws-kept facts h legal).hidden k k_in) in
      omega (arith, sizes, within)

  -- a value of so many pages, with what the CPUs hide at most
  truly : (n hidden : ℕ) → peak_sum facts g h ≤ hidden → 0 < n → n ≤ free_value facts h g
      → pos n ≤ℤ ((true_total facts h k +ℤ pos (negative_carried h k)) +ℤ pos hidden)
  truly n hidden covers some least =
      let layout = (base_can_begin pages facts h legal).layout in
      let k_in = first-known facts.layout layout g (omega arith) in
      let value = value-least (value_at (state_after facts h) k) n some least in
      let excess = (laws-kept facts h legal).excess k k_in in
      let hides = hidden-most in
      omega (arith, ints, value, excess, hides, covers)

pub marks-keep_high : MarksKeepHigh
marks-keep_high facts h g legal zone some least =
    let m = mark_at (state_after facts h) g in
    let covers = ((laws-kept facts h legal).covers g zone).set some in
    let peaks = peak_sum facts g h in
    let enough = truly facts h g legal zone m peaks (omega arith) some least in
    omega (arith, ints, covers, enough)

pub no_marks-keep_limit : NoMarksKeepLimit
no_marks-keep_limit facts h g limit legal zone none more =
    let covers = ((laws-kept facts h legal).covers g zone).unset none in
    let enough = truly facts h g legal zone (suc limit) (gap_of (size_at facts.sizes g)) covers (omega arith)
    (omega (arith, more)) in
    omega (arith, ints, enough)
