-- The words of a legal history leave room for the calls.
use Rattle.std.proofs.Common.{◌≡◌, ℕ, suc, ◌+◌, ◌<◌, ◌^◌, ℤ, pos, ◌+ℤ◌, ◌≤ℤ◌, List, [], ◌∷◌, length, ap, arith}
use Rattle.std.proofs.lemmas.Int.{ints}
use Rattle.vms_history.specs.Common.{CpuState, Online, Dead, Absent, online_from, own, begun_in, sum_below}
use Rattle.vms_history.proofs.Common.{base_can_begin, sum_below-not_negative}
use Rattle.vms_event_core.specs.declared.states.EventState.{EventState}
use Rattle.vms_event_core.specs.declared.steps.EventFacts.{EventFacts}
use Rattle.vms_event_core.specs.Common.{online_cpus, sum_over, events, History, IsLegal, state_after, KeepsLaws}
use Rattle.vms_event_core.specs.Common.{carried, role, IsEvent, word_at}

-- the words of the CPUs that are online, from CPU c on, are some of all words
module _ (s : EventState) (k : ℕ) where
  abbrev words : ℕ → ℤ
  words c = pos (word_at s c k)

  words-next : (c n : ℕ) → sum_below words (suc c + n) ≡ sum_below words (c + suc n)
  words-next c n = let same : suc c + n ≡ c + suc n = omega arith in ap (λ (m : ℕ). sum_below words m) same

  sum_over-most : (states : List CpuState) (c : ℕ)
      → (pos (sum_over s k (online_from c states)) +ℤ sum_below words c) ≤ℤ sum_below words (c + length states)
  sum_over-most [] c =
      let same : c + 0 ≡ c = omega arith in
      let sums : sum_below words (c + 0) ≡ sum_below words c = ap (λ (m : ℕ). sum_below words m) same in
      omega (arith, ints, sums)
  sum_over-most (Online ∷ states) c =
      omega (arith, ints, words-next c (length states), sum_over-most states (suc c))
  sum_over-most (Dead ∷ states) c =
      omega (arith, ints, words-next c (length states), sum_over-most states (suc c))
  sum_over-most (Absent ∷ states) c =
      omega (arith, ints, words-next c (length states), sum_over-most states (suc c))

pub sum_over-small : (facts : EventFacts) (h : History) (k : ℕ) → IsLegal facts h → KeepsLaws facts h → IsEvent k
    → sum_over (state_after facts h) k (online_cpus facts) < 2 ^ 62
sum_over-small facts h k legal laws k_in =
    let s = state_after facts h in
    let all = sum_over-most s k facts.cpus 0 in
    let each = (base_can_begin events facts h legal).one_state_each in
    let count : 0 + length facts.cpus ≡ facts.layout.cpus = omega (arith, each) in
    let same : sum_below (words s k) (0 + length facts.cpus) ≡ sum_below (words s k) facts.layout.cpus =
    ap (λ (m : ℕ). sum_below (words s k) m) count in
    let carrying = sum_below-not_negative (λ p. carried k (own h p)) (suc (begun_in role h))
    (λ p below. laws.bounds.carried_least p k) in
    omega (arith, ints, all, same, carrying, laws.bounds.sums k k_in, laws.bounds.below)
