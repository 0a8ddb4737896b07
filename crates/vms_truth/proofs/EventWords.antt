-- The words of an event by the states of their CPUs: those of the CPUs that are online make up the true total, but for
-- what dead CPUs hold and what is carried from them.
use Rattle.std.proofs.Common.{◌≡◌, ◌≢◌, ℕ, suc, ◌+◌, ◌<◌, Bool, true, false, List, [], ◌∷◌, length, ℤ, pos, neg_ℤ, ◌+ℤ◌}
use Rattle.std.proofs.Common.{◌-ℤ◌, ◌≤ℤ◌, refl, sym, ap, ◌∙◌, arith, ◌&&◌, if◌then◌else◌, nat_eq, eqb-true}
use Rattle.std.proofs.lemmas.Int.{ints}
use Rattle.vms_world.specs.Common.{AddF, TakeE, Absent, CpuState, Event, EventFacts, EventState, EventStep, IsCpu}
use Rattle.vms_world.specs.Common.{IsEvent, Shape, begun_in, events, online_cpus, online_from, own, state_at, sum_below}
use Rattle.vms_world.specs.Common.{sum_of_words, sum_over, total, word_at}
use Rattle.vms_event_core.specs.Events.{History, IsLegal, carried_by_all, state_after, true_total}
use Rattle.vms_event_core.specs.Laws.{KeepsLaws}
use Rattle.vms_event_core.specs.Conditions.{Meets}
use Rattle.vms_event_core.specs.Own.{carried, moved}
use Rattle.vms_event_core.specs.Bases.{cpu_at}
use Rattle.vms_event_core.specs.Steps.{role}
use Rattle.vms_event_core.specs.Totals.{taken_from}
use Rattle.vms_base.specs.declared.kinds.CpuState.TheVariants.{Dead, Online}
use Rattle.vms_history.proofs.Common.{base_can_begin, sum_below-not_negative, sum_below-only, sum_below-same}
use Rattle.vms_history.proofs.Common.{sum_below-sum, sum_below-zeros, total-by_parts, total-of_callers}
use Rattle.vms_truth.specs.EventTruth.{LacksLittle, dead_word, held_by_dead, left_out}
use Rattle.vms_near.specs.InFlight.{is_dead}

module _ (states : List CpuState) (s : EventState) (k : ℕ) where
  abbrev words_below : ℕ → ℤ
  words_below n = sum_below (λ c. pos (word_at s c k)) n

  abbrev dead_below : ℕ → ℤ
  dead_below n = sum_below (dead_word states s k) n

  -- the same of the CPUs from one on, whose states come first here
  parts-from : (c : ℕ) (rest : List CpuState) → ((i : ℕ) → state_at states (c + i) ≡ state_at rest i)
      → ((d : ℕ) → d < c + length rest → state_at states d ≡ Absent → word_at s d k ≡ 0)
      → words_below (c + length rest) +ℤ dead_below c
      ≡ (words_below c +ℤ pos (sum_over s k (online_from c rest))) +ℤ dead_below (c + length rest)
  parts-from c [] at none =
      let place : c + 0 ≡ c = omega arith in
      let words = ap words_below place in
      let dead = ap dead_below place in
      omega (arith, ints, words, dead)
  parts-from c (x ∷ rest) at none =
      let more : c + suc (length rest) ≡ suc c + length rest = omega arith in
      let after = parts-from (suc c) rest
      (λ i. let place : suc c + i ≡ c + suc i = omega arith in ap (state_at states) place ∙ at (suc i))
      (λ d below. none d (omega (arith, below))) in
      let place : c + 0 ≡ c = omega arith in
      let here : state_at states c ≡ x = ap (state_at states) (sym place) ∙ at 0 in
      let words = ap words_below more in
      let dead = ap dead_below more in
      by x here (none c (omega arith)) after words dead
    where
      by : (y : CpuState) → state_at states c ≡ y → (state_at states c ≡ Absent → word_at s c k ≡ 0)
          → words_below (suc c + length rest) +ℤ dead_below (suc c)
          ≡ (words_below (suc c) +ℤ pos (sum_over s k (online_from (suc c) rest))) +ℤ dead_below (suc c + length rest)
          → words_below (c + suc (length rest)) ≡ words_below (suc c + length rest)
          → dead_below (c + suc (length rest)) ≡ dead_below (suc c + length rest)
          → words_below (c + suc (length rest)) +ℤ dead_below c
          ≡ (words_below c +ℤ pos (sum_over s k (online_from c (y ∷ rest)))) +ℤ dead_below (c + suc (length rest))
      by Online here zero after words dead =
          let mine : dead_word states s k c ≡ pos 0 =
          ap (λ (y : CpuState). if is_dead y then pos (word_at s c k) else pos 0) here in
          omega (arith, ints, mine, after, words, dead)
      by Dead here zero after words dead =
          let mine : dead_word states s k c ≡ pos (word_at s c k) =
          ap (λ (y : CpuState). if is_dead y then pos (word_at s c k) else pos 0) here in
          omega (arith, ints, mine, after, words, dead)
      by Absent here zero after words dead =
          let mine : dead_word states s k c ≡ pos 0 =
          ap (λ (y : CpuState). if is_dead y then pos (word_at s c k) else pos 0) here in
          omega (arith, ints, mine, zero here, after, words, dead)

-- where each CPU of a layout has a state, and the words of absent ones are 0
pub online-words : (shape : Shape) (states : List CpuState) (s : EventState) (k : ℕ) → length states ≡ shape.cpus
    → ((c : ℕ) → IsCpu shape c → state_at states c ≡ Absent → word_at s c k ≡ 0)
    → pos (sum_over s k (online_from 0 states)) ≡ sum_of_words shape s k -ℤ held_by_dead shape states s k
online-words shape states s k each none =
    let count : 0 + length states ≡ shape.cpus = omega arith in
    let all = parts-from states s k 0 states
    (λ i. let place : 0 + i ≡ i = omega arith in ap (state_at states) place)
    (λ c below. none c (omega (arith, below, each))) in
    let words = ap (words_below states s k) count in
    let dead = ap (dead_below states s k) count in
    omega (arith, ints, all, words, dead)

-- what a step takes of the words of event k
abbrev taken_by : ℕ → EventStep → ℤ
taken_by k (TakeE c l v) = if nat_eq l.number k then pos v else pos 0
taken_by k _ = pos 0

module _ (facts : EventFacts) (k : ℕ) where
  -- each take is of one CPU
  one-taken : (e : Event EventStep) (h : History) → IsLegal facts (e ∷ h)
      → sum_below (λ c. taken_from c k e.step) facts.layout.cpus ≡ taken_by k e.step
  one-taken e h legal = by e.step legal.2
    where
      by : (step : EventStep) → Meets facts h (state_after facts h) e.caller step
          → sum_below (λ c. taken_from c k step) facts.layout.cpus ≡ taken_by k step
      by (TakeE d l v) meets =
          sum_below-only (λ (z : ℤ). z) (pos 0) (pos v) d.number facts.layout.cpus (nat_eq l.number k) refl
          meets.finds.cpu
      by _ meets = sum_below-zeros (λ c. pos 0) facts.layout.cpus (λ c c_in. refl)

  -- a CPU that isn't dead has nothing taken of it
  none-taken : (c : ℕ) (h : History) → IsLegal facts h → cpu_at facts c ≢ Dead → total (taken_from c k) h ≡ pos 0
  none-taken c [] legal other = refl
  none-taken c (e ∷ h) legal other =
      let before = none-taken c h legal.0 other in
      let step = by e.step legal.2 in
      omega (arith, ints, before, step)
    where
      by : (step : EventStep) → Meets facts h (state_after facts h) e.caller step → taken_from c k step ≡ pos 0
      by (TakeE d l v) meets = at (nat_eq d.number c) refl
        where
          at : (b : Bool) → nat_eq d.number c ≡ b → (if b && nat_eq l.number k then pos v else pos 0) ≡ pos 0
          at true same = absurd (other (ap (cpu_at facts) (sym (eqb-true d.number c same)) ∙ meets.dead))
          at false apart = refl
      by _ meets = refl

  -- what callers carry was taken
  carried-taken : (h : History) → total (moved k) h ≤ℤ total (taken_by k) h
  carried-taken [] = omega (arith, ints)
  carried-taken (e ∷ h) = let before = carried-taken h in let step = by e.step in omega (arith, ints, before, step)
    where
      at : (b : Bool) (v : ℕ) → (if b then neg_ℤ (pos v) else pos 0) ≤ℤ pos 0
      at true v = omega (arith, ints)
      at false v = omega (arith, ints)

      by : (step : EventStep) → moved k step ≤ℤ taken_by k step
      by (AddF c l v) = at (nat_eq l.number k) v
      by (TakeE c l v) = omega (arith, ints)
      by _ = omega (arith, ints)

  module _ (h : History) (legal : IsLegal facts h) (laws : KeepsLaws facts h) (k_in : IsEvent k) where
    abbrev base_dead : ℕ → ℤ
    base_dead = dead_word facts.cpus facts.base k

    abbrev now_dead : ℕ → ℤ
    now_dead = dead_word facts.cpus (state_after facts h) k

    -- what dead CPUs held in the base, they hold or it was taken
    kept-one : (c : ℕ) → now_dead c +ℤ total (taken_from c k) h ≡ base_dead c
    kept-one c = by (state_at facts.cpus c) refl
      where
        by : (x : CpuState) → state_at facts.cpus c ≡ x
            → (if is_dead x then pos (word_at (state_after facts h) c k) else pos 0) +ℤ total (taken_from c k) h
            ≡ (if is_dead x then pos (word_at facts.base c k) else pos 0)
        by Dead is = (laws.dead c k is k_in).kept
        by Online is = let none = none-taken c h legal (λ same. absurd cc) in omega (arith, ints, none)
        by Absent is = let none = none-taken c h legal (λ same. absurd cc) in omega (arith, ints, none)

    pub lacks-little : LacksLittle facts h k
    lacks-little =
        let n = facts.layout.cpus in
        let all = total-by_parts events facts (taken_by k) (λ g c. total (taken_from c k) g)
        (λ e g c. taken_from c k e.step) n (λ c c_in. refl) (λ e g c c_in. refl)
        (λ e g ok. one-taken e g ok) h legal in
        let sums = sum_below-sum now_dead (λ c. total (taken_from c k) h) n in
        let each = sum_below-same (λ c. now_dead c +ℤ total (taken_from c k) h) base_dead n (λ c c_in. kept-one c) in
        let callers : total (moved k) h ≡ carried_by_all h k =
        total-of_callers events facts (moved k) h (suc (begun_in role h)) legal (omega arith) in
        let some = sum_below-not_negative (λ p. carried k (own h p)) (suc (begun_in role h))
        (λ p p_in. laws.bounds.carried_least p k) in
        let words = sum_below-not_negative now_dead n (λ c c_in. not_negative c) in
        record {
          least = omega (arith, ints, words, some);
          most = omega (arith, ints, all, sums, each, callers, carried-taken h);
        }
      where
        not_negative : (c : ℕ) → pos 0 ≤ℤ now_dead c
        not_negative c = by (is_dead (state_at facts.cpus c))
          where
            by : (b : Bool) → pos 0 ≤ℤ (if b then pos (word_at (state_after facts h) c k) else pos 0)
            by true = omega (arith, ints)
            by false = omega (arith, ints)

    -- so much less than the true total the words of the CPUs that are online come to
    pub online-total : pos (sum_over (state_after facts h) k (online_cpus facts))
        ≡ true_total facts h k -ℤ left_out facts h k
    online-total =
        let base = base_can_begin events facts h legal in
        let online = online-words facts.layout facts.cpus (state_after facts h) k base.one_state_each
        (λ c c_in absent. laws.absent c k c_in absent k_in) in
        omega (arith, ints, online, laws.totals k k_in)
