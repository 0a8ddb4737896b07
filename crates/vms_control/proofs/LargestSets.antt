-- For other crates too: the largest number of sets of one threshold or mark, by how often each was set since.
use Rattle.std.proofs.Common.{ℕ, ◌+◌, ◌<◌, ◌≤◌, length, arith}
use Rattle.vms_calls.specs.Common.{Shape, IsCpu, IsPlace, IsZone, place_count, State, Facts, mark_sets_at}
use Rattle.vms_calls.specs.Common.{threshold_sets_at, History, state_after, most_sets, largest_below}
use Rattle.vms_control.specs.Common.{MayStillSet, SetsAtMost}
use Rattle.vms_history.proofs.Common.{largest_below-least, largest_below-most}
use Rattle.vms_words.specs.Common.{largest_sets}

module _ (shape : Shape) (s : State) where
  threshold-most : (c g : ℕ) → IsCpu shape c → IsPlace shape g → threshold_sets_at s c g ≤ largest_sets shape s
  threshold-most c g c_in g_in =
      let in_row = largest_below-least (λ f. threshold_sets_at s c f) (place_count shape) g g_in in
      let of_rows =
      largest_below-least (λ d. largest_below (λ f. threshold_sets_at s d f) (place_count shape)) shape.cpus c c_in in
      omega (arith, in_row, of_rows)

  mark-most : (g : ℕ) → IsZone shape g → mark_sets_at s g ≤ largest_sets shape s
  mark-most g g_in =
      let of_zones = largest_below-least (λ f. mark_sets_at s f) (length shape.zones) g g_in in omega (arith, of_zones)

module _ (facts : Facts) where
  -- fewer than the most that may be
  pub largest-may : (h : History) → largest_sets facts.layout (state_after facts h) < most_sets
      → (g : ℕ) → IsPlace facts.layout g → MayStillSet facts h g
  largest-may h room g g_in = record {
    thresholds = λ c c_in. let most = threshold-most facts.layout (state_after facts h) c g c_in g_in in
        omega (arith, most, room);
    mark = λ zone. let most = mark-most facts.layout (state_after facts h) g zone in omega (arith, most, room);
  }

  -- it grows by as often as each was set at most
  pub largest-grows : (f g : ℕ → ℕ) (times : ℕ) (later earlier : History) → SetsAtMost facts f g later earlier
      → ((n : ℕ) → f n ≤ times) → ((n : ℕ) → g n ≤ times)
      → largest_sets facts.layout (state_after facts later)
      ≤ times + largest_sets facts.layout (state_after facts earlier)
  largest-grows f g times later earlier sets f_most g_most =
      let shape = facts.layout in
      let s = state_after facts earlier in
      let next = state_after facts later in
      let rows =
      largest_below-most (λ c. largest_below (λ n. threshold_sets_at next c n) (place_count shape)) shape.cpus
      (times + largest_sets shape s)
      (λ c c_in. largest_below-most (λ n. threshold_sets_at next c n) (place_count shape)
      (times + largest_sets shape s)
      (λ n n_in. let most = threshold-most shape s c n c_in n_in in
      omega (arith, sets.thresholds c n c_in n_in, f_most n, most))) in
      let zones = largest_below-most (λ n. mark_sets_at next n) (length shape.zones) (times + largest_sets shape s)
      (λ n n_in. let most = mark-most shape s n n_in in omega (arith, sets.marks n n_in, g_most n, most)) in
      omega (arith, rows, zones)
