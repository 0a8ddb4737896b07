-- Nothing is lost: the words and what is carried add up to the true totals.
use Rattle.std.proofs.Common.{◌≡◌, ℕ, suc, ◌+◌, Bool, true, false, [], ◌∷◌, Option, Some, None, ℤ, pos, neg_ℤ, ◌+ℤ◌}
use Rattle.std.proofs.Common.{◌-ℤ◌, refl, sym, ap, ◌∙◌, arith, if◌then◌else◌, nat_eq, eqb-true}
use Rattle.std.proofs.lemmas.Int.{ints}
use Rattle.vms_history.specs.Common.{CpuId, IsCpu, total, begun_in, owner_in, sum_below}
use Rattle.vms_history.proofs.Common.{if-cancels, sum_below-same, sum_below-one, total-of_callers}
use Rattle.vms_event_core.specs.declared.states.EventState.{EventState}
use Rattle.vms_event_core.specs.declared.steps.EventFacts.{EventFacts}
use Rattle.vms_event_core.specs.declared.steps.EventStep.{EventStep}
use Rattle.vms_event_core.specs.declared.steps.EventStep.TheVariants.{AddE, TakeE, AddF}
use Rattle.vms_event_core.specs.Common.{Meets, events, History, IsLegal, state_after, carried_by_all, true_total}
use Rattle.vms_event_core.specs.Common.{IsComplete, HoldsTotals, KeepsTotals, moved, role, counted, word_after, word_in}
use Rattle.vms_event_core.specs.Common.{IsEvent, word_at, sum_of_words}
use Rattle.vms_event_core.proofs.Carrying.{nothing_in_hand, nothing_carried}
use Rattle.vms_event_core.proofs.StateWords.{owner_known, word_at-state_after}

-- b says whether the step is on the event that is summed
addition-adds_up : (b : Bool) (sum after : ℤ) (word n : ℕ)
    → after ≡ sum +ℤ (if b then pos (word + n) -ℤ pos word else pos 0)
    → (after +ℤ pos 0 ≡ sum +ℤ (if b then pos n else pos 0))
    × (after +ℤ (if b then neg_ℤ (pos n) else pos 0) ≡ sum +ℤ pos 0)
addition-adds_up true sum after word n is = (omega (arith, ints), omega (arith, ints))
addition-adds_up false sum after word n is = (omega (arith, ints), omega (arith, ints))

module _ (facts : EventFacts) (h : History) (s : EventState) (p k : ℕ) (f : ℕ → ℕ)
    (told : (c : ℕ) → word_at s c k ≡ f c) where
  -- the words after a step, and what it moved, are the words before it and what it counted
  AddsUp-step : (who : Option CpuId) (step : EventStep) → owner_in role h p ≡ who
      → ((o : CpuId) → who ≡ Some o → IsCpu facts.layout o.number) → Meets facts h s p step
      → sum_below (λ c. pos (word_after who c k step (f c))) facts.layout.cpus +ℤ moved k step
      ≡ sum_below (λ c. pos (f c)) facts.layout.cpus +ℤ counted k step
  AddsUp-step (Some o) (AddE l n) is known meets =
      let one = sum_below-one pos f (λ c. f c + n) o.number facts.layout.cpus (nat_eq l.number k) (known o refl) in
      (addition-adds_up (nat_eq l.number k) (sum_below (λ c. pos (f c)) facts.layout.cpus) _ (f o.number) n one).0
  AddsUp-step None (AddE l n) is known meets = let owns = meets.owns in absurd (cc)
  AddsUp-step (Some o) (TakeE d l v) is known meets = let owns = meets.control in absurd (cc)
  AddsUp-step None (TakeE d l v) is known meets =
      let one = sum_below-one pos f (λ c. 0) d.number facts.layout.cpus (nat_eq l.number k) meets.finds.cpu in
      let all = if-cancels (nat_eq l.number k) (pos (f d.number)) (pos v) (λ same.
      ap pos (sym meets.finds.value ∙ ap (word_at s d.number) (eqb-true l.number k same) ∙ told d.number)) in
      omega (arith, ints, one, all)
  AddsUp-step (Some o) (AddF d l v) is known meets =
      let one = sum_below-one pos f (λ c. f c + v) d.number facts.layout.cpus (nat_eq l.number k) meets.cpu in
      (addition-adds_up (nat_eq l.number k) (sum_below (λ c. pos (f c)) facts.layout.cpus) _ (f d.number) v one).1
  AddsUp-step None (AddF d l v) is known meets =
      let one = sum_below-one pos f (λ c. f c + v) d.number facts.layout.cpus (nat_eq l.number k) meets.cpu in
      (addition-adds_up (nat_eq l.number k) (sum_below (λ c. pos (f c)) facts.layout.cpus) _ (f d.number) v one).1
  AddsUp-step None _ is known meets = refl
  AddsUp-step (Some o) _ is known meets = refl

sum_of_words-told : (facts : EventFacts) (h : History) (k : ℕ) → IsLegal facts h → IsEvent k
    → sum_of_words facts.layout (state_after facts h) k ≡ sum_below (λ c. pos (word_in facts h c k)) facts.layout.cpus
sum_of_words-told facts h k legal k_in =
    sum_below-same (λ c. pos (word_at (state_after facts h) c k)) (λ c. pos (word_in facts h c k)) facts.layout.cpus
    (λ c c_in. ap pos (word_at-state_after facts h c k legal k_in))

-- the same over a whole history, whoever made each step
words_in-moved : (facts : EventFacts) (h : History) (k : ℕ) → IsLegal facts h → IsEvent k
    → sum_below (λ c. pos (word_in facts h c k)) facts.layout.cpus +ℤ total (moved k) h ≡ true_total facts h k
words_in-moved facts [] k legal k_in = refl
words_in-moved facts (e ∷ h) k legal k_in =
    let step = AddsUp-step facts h (state_after facts h) e.caller k (λ c. word_in facts h c k)
    (λ c. word_at-state_after facts h c k legal.0 k_in) (owner_in role h e.caller) e.step refl
    (owner_known facts h e.caller legal.0) legal.2 in
    omega (arith, ints, step, words_in-moved facts h k legal.0 k_in)

pub totals-kept : (facts : EventFacts) (h : History) → IsLegal facts h → KeepsTotals facts h
totals-kept facts h legal k k_in =
    let all : total (moved k) h ≡ carried_by_all h k =
    total-of_callers events facts (moved k) h (suc (begun_in role h)) legal (omega arith) in
    rw (sum_of_words-told facts h k legal k_in, ← all) (words_in-moved facts h k legal k_in)

-- where every pass has ended, the words alone are the true total
pub totals-held : (facts : EventFacts) (h : History) (k : ℕ) → IsComplete facts h → IsEvent k → HoldsTotals facts h k
totals-held facts h k complete k_in =
    let none = nothing_carried facts h k complete k_in in
    record {
      nothing_in_hand = λ p. nothing_in_hand facts h p k complete k_in;
      nothing_carried = none;
      words = omega (arith, ints, none, totals-kept facts h complete.legal k k_in);
    }
