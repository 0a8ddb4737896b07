-- For other crates too: the words of CPUs that are online only grow, so what loads of them find is at most what stands
-- later.
use Rattle.std.proofs.Common.{◌≡◌, ℕ, suc, ◌+◌, ◌≤◌, ◌&&◌, Bool, true, false, List, [], ◌∷◌, ◌++◌, length, Option, Some}
use Rattle.std.proofs.Common.{None, ℤ, pos, ◌+ℤ◌, ◌≤ℤ◌, refl, sym, ap, ◌∙◌, arith, if◌then◌else◌, nat_eq, eqb-true}
use Rattle.std.specs.Prelude.{sum}
use Rattle.std.proofs.lemmas.Int.{ints}
use Rattle.std.proofs.lemmas.List.Sums.{sum_by-cons}
use Rattle.vms_history.specs.Common.{CpuId, EventId, CpuState, Online, Dead, Absent, online_from, owner_in, sum_below}
use Rattle.vms_history.proofs.Common.{base_can_begin, prefix_is_legal}
use Rattle.vms_event_core.specs.declared.states.EventState.{EventState}
use Rattle.vms_event_core.specs.declared.steps.EventFacts.{EventFacts}
use Rattle.vms_event_core.specs.declared.steps.EventStep.{EventStep}
use Rattle.vms_event_core.specs.declared.steps.EventStep.TheVariants.{AddE, TakeE, AddF}
use Rattle.vms_event_core.specs.Common.{cpu_at, online_cpus, AtMostStands, IsAllEvents, Meets, events, History, IsLegal}
use Rattle.vms_event_core.specs.Common.{state_after, most_in_sum, role, word_after, word_in, IsEvent, word_at}
use Rattle.vms_event_core.specs.Common.{sum_of_words}
use Rattle.vms_event_core.proofs.Bounds.{sum_of_words-most}
use Rattle.vms_event_core.proofs.StateWords.{word_at-state_after}

larger-if : (b : Bool) (word n : ℕ) → word ≤ (if b then word + n else word)
larger-if true word n = omega arith
larger-if false word n = omega arith

kept_if : (facts : EventFacts) (d c : ℕ) (b : Bool) (word : ℕ) → cpu_at facts c ≡ Online → cpu_at facts d ≡ Dead
    → word ≤ (if nat_eq d c && b then 0 else word)
kept_if facts d c b word online is_dead = by (nat_eq d c) refl
  where
    by : (a : Bool) → nat_eq d c ≡ a → word ≤ (if a && b then 0 else word)
    by true same =
        let both : cpu_at facts d ≡ cpu_at facts c = ap (cpu_at facts) (eqb-true d c same) in
        let apart : Dead ≡ Online = sym is_dead ∙ both ∙ online in
        absurd (cc)
    by false other = omega arith

word_after-grows : (facts : EventFacts) (h : History) (s : EventState) (p c k word : ℕ) (who : Option CpuId)
    (step : EventStep)
    → cpu_at facts c ≡ Online → Meets facts h s p step → word ≤ word_after who c k step word
word_after-grows facts h s p c k word (Some o) (AddE l n) online meets =
    larger-if (nat_eq o.number c && nat_eq l.number k) word n
word_after-grows facts h s p c k word None (AddE l n) online meets = omega arith
word_after-grows facts h s p c k word (Some o) (AddF d l v) online meets =
    larger-if (nat_eq d.number c && nat_eq l.number k) word v
word_after-grows facts h s p c k word None (AddF d l v) online meets =
    larger-if (nat_eq d.number c && nat_eq l.number k) word v
word_after-grows facts h s p c k word (Some o) (TakeE d l v) online meets =
    kept_if facts d.number c (nat_eq l.number k) word online meets.dead
word_after-grows facts h s p c k word None (TakeE d l v) online meets =
    kept_if facts d.number c (nat_eq l.number k) word online meets.dead
word_after-grows facts h s p c k word (Some o) _ online meets = omega arith
word_after-grows facts h s p c k word None _ online meets = omega arith

pub word_in-grows : (facts : EventFacts) (m h : History) (c k : ℕ) → IsLegal facts (m ++ h) → cpu_at facts c ≡ Online
    → word_in facts h c k ≤ word_in facts (m ++ h) c k
word_in-grows facts [] h c k legal online = omega arith
word_in-grows facts (e ∷ m) h c k legal online =
    let step = word_after-grows facts (m ++ h) (state_after facts (m ++ h)) e.caller c k (word_in facts (m ++ h) c k)
    (owner_in role (m ++ h) e.caller) e.step online legal.2 in
    omega (arith, step, word_in-grows facts m h c k legal.0 online)

pub words-grow : (facts : EventFacts) (m h : History) (c k : ℕ) → IsLegal facts (m ++ h) → cpu_at facts c ≡ Online
    → IsEvent k
    → word_at (state_after facts h) c k ≤ word_at (state_after facts (m ++ h)) c k
words-grow facts m h c k legal online k_in =
    rw (
      word_at-state_after facts h c k (prefix_is_legal events facts m h legal) k_in,
      word_at-state_after facts
          (m ++ h) c k legal k_in,
    )
    (word_in-grows facts m h c k legal online)

module _ (s : EventState) (k : ℕ) where
  abbrev words_below : ℕ → ℤ
  words_below n = sum_below (λ c. pos (word_at s c k)) n

  -- the words of the CPUs that are online make up a part of the sum over all
  found-most : (c : ℕ) (states : List CpuState) (found : List ℕ) → length found ≡ length (online_from c states)
      → AtMostStands s k (online_from c states) found
      → (pos (sum found) +ℤ words_below c) ≤ℤ words_below (c + length states)
  found-most c [] [] same most =
      let place : c + 0 ≡ c = omega arith in
      let at : words_below (c + 0) ≡ words_below c = ap words_below place in
      omega (arith, ints, at)
  found-most c [] (v ∷ found) same most = absurd (omega arith)
  found-most c (Online ∷ states) [] same most = absurd (omega arith)
  found-most c (Online ∷ states) (v ∷ found) same most =
      let rest = found-most (suc c) states found (omega arith) most.1 in
      let place : c + suc (length states) ≡ suc c + length states = omega arith in
      let at : words_below (c + suc (length states)) ≡ words_below (suc c + length states) = ap words_below place in
      omega (arith, ints, rest, at, most.0, sum_by-cons (λ x. x) v found)
  found-most c (Dead ∷ states) found same most =
      let rest = found-most (suc c) states found same most in
      let place : c + suc (length states) ≡ suc c + length states = omega arith in
      let at : words_below (c + suc (length states)) ≡ words_below (suc c + length states) = ap words_below place in
      omega (arith, ints, rest, at)
  found-most c (Absent ∷ states) found same most =
      let rest = found-most (suc c) states found same most in
      let place : c + suc (length states) ≡ suc c + length states = omega arith in
      let at : words_below (c + suc (length states)) ≡ words_below (suc c + length states) = ap words_below place in
      omega (arith, ints, rest, at)

-- so what loads of them found, each before h was whole, is not too large in sum
pub all_events-most : (facts : EventFacts) (h : History) (k : EventId) (found : List ℕ) (steps : List EventStep)
    (answer : ℕ)
    → IsLegal facts h → IsEvent k.number → IsAllEvents (online_cpus facts) k found steps answer
    → AtMostStands (state_after facts h) k.number (online_cpus facts) found → answer ≤ most_in_sum facts.layout
all_events-most facts h k found steps answer legal k_in call most =
    let part = found-most (state_after facts h) k.number 0 facts.cpus found call.one_each most in
    let one_each : 0 + length facts.cpus ≡ facts.layout.cpus =
    (let states = (base_can_begin events facts h legal).one_state_each in omega arith) in
    let all : words_below (state_after facts h) k.number (0 + length facts.cpus)
    ≡ sum_of_words facts.layout (state_after facts h) k.number =
    ap (words_below (state_after facts h) k.number) one_each in
    let sum_most : pos (sum found) ≤ℤ pos (most_in_sum facts.layout) =
    omega (arith, ints, part, all, sum_of_words-most facts h legal k.number k_in) in
    rw call.adds_up (omega (arith, ints, sum_most))
