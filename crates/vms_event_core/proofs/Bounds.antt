-- How large words and carried amounts are.
use Rattle.std.proofs.Common.{◌≡◌, ℕ, suc, ◌*◌, ◌<◌, ◌≤◌, pos, ◌+ℤ◌, ◌≤ℤ◌, inl, inr, ap, arith}
use Rattle.std.proofs.lemmas.Int.{ints}
use Rattle.std.proofs.lemmas.Bool.{cases_lt}
use Rattle.vms_history.specs.Common.{IsCpu, own, begun_in, most_volume}
use Rattle.vms_history.proofs.Common.{own-not_given, base_can_begin, sum_below-not_negative, sum_below-each}
use Rattle.vms_history.proofs.Common.{sum_below-most}
use Rattle.vms_event_core.specs.declared.steps.EventFacts.{EventFacts}
use Rattle.vms_event_core.specs.Common.{IsBase, most_in_base, events, History, IsLegal, state_after, true_total}
use Rattle.vms_event_core.specs.Common.{most_in_sum, BoundsWords, carried, role, spent, IsEvent, word_at, sum_of_words}
use Rattle.vms_event_core.proofs.Carrying.{carried-not_negative}
use Rattle.vms_event_core.proofs.Spending.{spent-affordable, counted-spent}
use Rattle.vms_event_core.proofs.Totals.{totals-kept}

module _ (facts : EventFacts) (h : History) (legal : IsLegal facts h) where
  base : IsBase facts
  base = base_can_begin events facts h legal

  true_total-most : (k : ℕ) → IsEvent k → true_total facts h k ≤ℤ pos (most_in_sum facts.layout)
  true_total-most k k_in =
      let spending = sum_below-most (λ c. pos (spent h c k)) facts.layout.cpus most_volume
      (λ c c_in. let most = spent-affordable facts h c k legal in omega (arith, ints, most)) in
      let split : pos (most_in_sum facts.layout) ≡ pos most_in_base +ℤ pos (facts.layout.cpus * most_volume) =
      omega (arith, ints) in
      omega (arith, ints, base.sums k k_in, counted-spent facts h k legal, spending, split)

  each_carried : (k i : ℕ) → i < suc (begun_in role h) → pos 0 ≤ℤ carried k (own h i)
  each_carried k i below = carried-not_negative facts h i k legal

  each_word : (k i : ℕ) → i < facts.layout.cpus → pos 0 ≤ℤ pos (word_at (state_after facts h) i k)
  each_word k i below = omega (arith, ints)

  pub sum_of_words-most : (k : ℕ) → IsEvent k
      → sum_of_words facts.layout (state_after facts h) k ≤ℤ pos (most_in_sum facts.layout)
  sum_of_words-most k k_in =
      let others = sum_below-not_negative (λ i. carried k (own h i)) (suc (begun_in role h)) (each_carried k) in
      omega (arith, ints, others, totals-kept facts h legal k k_in, true_total-most k k_in)

  word-most : (c k : ℕ) → IsCpu facts.layout c → IsEvent k
      → word_at (state_after facts h) c k ≤ most_in_sum facts.layout
  word-most c k c_in k_in =
      let part = sum_below-each (λ i. pos (word_at (state_after facts h) i k)) c facts.layout.cpus c_in (each_word k) in
      let word : pos (word_at (state_after facts h) c k) ≤ℤ pos (most_in_sum facts.layout) =
      omega (arith, ints, part, sum_of_words-most k k_in) in
      omega (arith, ints, word)

  carried_most-holds : (p k : ℕ) → IsEvent k → carried k (own h p) ≤ℤ pos (most_in_sum facts.layout)
  carried_most-holds p k k_in = elim (cases_lt p (suc (begun_in role h))) [
    | inl given ↦
        let part = sum_below-each (λ i. carried k (own h i)) p (suc (begun_in role h)) given (each_carried k) in
        let others = sum_below-not_negative (λ i. pos (word_at (state_after facts h) i k)) facts.layout.cpus
        (each_word k) in
        omega (arith, ints, part, others, totals-kept facts h legal k k_in, true_total-most k k_in)
    | inr later ↦
        let none : carried k (own h p) ≡ pos 0 = ap (carried k) (own-not_given events facts h p legal (omega arith)) in
        omega (arith, ints, none)
  ]

  pub words-bounded : BoundsWords facts h
  words-bounded = record {
    sums = λ k k_in. omega (arith, ints, totals-kept facts h legal k k_in, true_total-most k k_in);
    words = word-most;
    carried_least = λ p k. carried-not_negative facts h p k legal;
    carried_most = carried_most-holds;
    below = let cpus = base.layout.cpus_most in omega arith;
  }
