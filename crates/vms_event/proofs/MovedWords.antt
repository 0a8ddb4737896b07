-- The control pass may move the words of a dead CPU, and what its moves of all events make.
use Rattle.std.proofs.Common.{◌≡◌, ◌≢◌, ℕ, zero, suc, ◌+◌, ◌<◌, ◌%◌, ◌^◌, List, [], ◌∷◌, ◌++◌, length, None, slice_set}
use Rattle.std.proofs.Common.{pos, nat_eq, if◌then◌else◌, true, inl, inr, refl, ap, sym, ◌∙◌, subst, arith, eq-eqb}
use Rattle.std.proofs.Common.{append-nil, append_assoc, length-append}
use Rattle.std.proofs.lemmas.Bool.{cases_lt}
use Rattle.std.proofs.lemmas.Int.{ints}
use Rattle.std.proofs.lemmas.List.{get_or_past}
use Rattle.vms_history.specs.Common.{CpuId, EventId, Dead, Absent, IsCpu, own, owner_in}
use Rattle.vms_history.proofs.Common.{base_can_begin}
use Rattle.vms_event_core.specs.declared.steps.EventFacts.{EventFacts}
use Rattle.vms_event_core.specs.declared.steps.EventStep.{EventStep}
use Rattle.vms_event_core.specs.declared.steps.EventStep.TheVariants.{TakeE, AddF}
use Rattle.vms_event_core.specs.Common.{IsBase, cpu_at, IsLowestOnline, moves, folds, events, state_after, carried}
use Rattle.vms_event_core.specs.Common.{role, effect, IsEvent, word_at}
use Rattle.vms_event_core.proofs.Common.{beginnings-kept}
use Rattle.vms_event.specs.Common.{IsIdleControl, event_place}
use Rattle.vms_event.specs.SharedWords.{shown}
use Rattle.vms_seats.specs.Common.{Pass, IsLive, Made, MadeOne, MayStep}
use Rattle.vms_seats.proofs.Common.{calls-none, calls-next, calls-both, calls-live}
use Rattle.vms_event.proofs.KnownSpending.{given, owner-same}
use Rattle.vms_event.proofs.OwnCounts.{unwrapped}
use Rattle.vms_event.proofs.ShownWords.{shown-word, shown-with_word}

-- a CPU that is not absent is one of the layout
present-is_cpu : (facts : EventFacts) → IsBase facts → (c : ℕ) → cpu_at facts c ≢ Absent → IsCpu facts.layout c
present-is_cpu facts base c present = elim (cases_lt c (length facts.cpus)) [
  | inl below ↦ let each = base.one_state_each in omega arith
  | inr past ↦ absurd (present (get_or_past facts.cpus c Absent past))
]

-- the control pass may take a word of a dead CPU
pub take-may : (pass : Pass EventFacts EventStep) → IsIdleControl pass → (from : CpuId) (k : EventId)
    → cpu_at pass.facts from.number ≡ Dead → IsEvent k.number
    → MayStep events shown pass (event_place from.number k.number) (λ n. 0) (λ found. TakeE from k found)
take-may pass control from k dead k_in h found goes small stands =
    let s = state_after pass.facts h in
    let least = (given pass h goes).0 in
    let none : owner_in role h pass.number ≡ None =
    owner-same pass h goes ∙ control.live.owner ∙ control.owns_none in
    let base = base_can_begin events pass.facts h goes.legal in
    let from_in : IsCpu pass.facts.layout from.number =
    present-is_cpu pass.facts base from.number (λ absent. absurd cc) in
    record {
      legal = (
        goes.legal,
        ((λ main. let some = least in omega arith), goes.lives),
        record {
          control = none;
          dead = dead;
          finds = record {
            cpu = from_in;
            event = k_in;
            value = sym (shown-word pass.facts s from.number k.number from_in k_in) ∙ stands;
          };
        },
      );
      shows = ap (λ who. shown pass.facts (effect pass.facts who (TakeE from k found) s)) none
          ∙ shown-with_word pass.facts s (beginnings-kept pass.facts [] h goes.legal).shape from.number k.number from_in
          k_in 0;
    }

-- a pass that has taken a word carries what it found
pub record Carries (pass : Pass EventFacts EventStep) (k v : ℕ) : Type 0 where
  pub live : IsLive events pass
  pub owns_none : pass.cpu ≡ None
  pub amount : carried k (own pass.seen pass.number) ≡ pos v

pub taken-carries : (new old : Pass EventFacts EventStep) (from : CpuId) (k : EventId) (v : ℕ) → IsIdleControl old
    → IsEvent k.number → MadeOne events new old (TakeE from k v) → Carries new k.number v
taken-carries new old from k v control k_in one = record {
  live = calls-live events new old (TakeE from k v ∷ []) control.live one.all;
  owns_none = one.all.cpu ∙ control.owns_none;
  amount =
      let same : nat_eq k.number k.number ≡ true = eq-eqb k.number k.number refl in
      let none = control.carries k.number k_in in
      let taken : (if nat_eq k.number k.number then pos v else pos 0) ≡ pos v =
      ap (λ b. if b then pos v else pos 0) same in
      ap (carried k.number) (ap (own new.seen) one.all.number ∙ one.all.made.made) ∙ omega (arith, ints, taken, none);
}

-- it may add that to a word of the lowest-numbered CPU that is online
pub add-may : (pass : Pass EventFacts EventStep) (k : EventId) (v : ℕ) → Carries pass k.number v → v ≢ 0
    → (into : CpuId) → IsLowestOnline pass.facts into.number → IsEvent k.number
    → MayStep events shown pass (event_place into.number k.number) (λ found. (found + v) % 2 ^ 64)
    (λ found. AddF into k v)
add-may pass k v carries some into lowest k_in h found goes small stands =
    let s = state_after pass.facts h in
    let least = (given pass h goes).0 in
    let none : owner_in role h pass.number ≡ None =
    owner-same pass h goes ∙ carries.live.owner ∙ carries.owns_none in
    let base = base_can_begin events pass.facts h goes.legal in
    let online = lowest.online in
    let into_in : IsCpu pass.facts.layout into.number =
    present-is_cpu pass.facts base into.number (λ absent. absurd cc) in
    let amount : carried k.number (own h pass.number) ≡ pos v = ap (carried k.number) goes.own_same ∙ carries.amount in
    let laws = beginnings-kept pass.facts [] h goes.legal in
    let bounds = laws.bounds in
    let is : word_at s into.number k.number ≡ found =
    sym (shown-word pass.facts s into.number k.number into_in k_in) ∙ stands in
    let word = bounds.words into.number k.number into_in k_in in
    let most = bounds.carried_most pass.number k.number k_in in
    let below = bounds.below in
    let fits : found + v < 2 ^ 64 = omega (arith, ints, word, most, amount, below, is) in
    record {
      legal = (
        goes.legal,
        ((λ main. let given_one = least in omega arith), goes.lives),
        record { cpu = into_in; lowest = lowest; event = k_in; carries = amount; some = some },
      );
      shows = ap (λ who. shown pass.facts (effect pass.facts who (AddF into k v) s)) none
          ∙ shown-with_word pass.facts s laws.shape into.number k.number into_in k_in
          (word_at s into.number k.number + v)
          ∙ ap (slice_set (shown pass.facts s) (event_place into.number k.number))
          (ap (λ word. word + v) is ∙ sym (unwrapped (found + v) fits));
    }

-- a take that found nothing is the whole move; else an addition follows
pub moved-nothing : (new old : Pass EventFacts EventStep) (from into : CpuId) (k : EventId) (v : ℕ) → v ≡ 0
    → MadeOne events new old (TakeE from k v) → Made events new old (moves from into k.number v)
moved-nothing new old from into k v none one =
    subst (λ n. Made events new old (moves from into k.number n)) (sym none)
    (subst (λ n. Made events new old (TakeE from k n ∷ [])) none one.all)

moves-some : (from into : CpuId) (k : EventId) (v : ℕ) → v ≢ 0
    → TakeE from k v ∷ AddF into k v ∷ [] ≡ moves from into k.number v
moves-some from into k zero some = absurd (some refl)
moves-some from into k (suc v) some = refl

pub moved-some : (new mid old : Pass EventFacts EventStep) (from into : CpuId) (k : EventId) (v : ℕ) → v ≢ 0
    → MadeOne events mid old (TakeE from k v) → MadeOne events new mid (AddF into k v)
    → Made events new old (moves from into k.number v)
moved-some new mid old from into k v some take add =
    subst (Made events new old) (moves-some from into k v some)
    (calls-next events new mid old (TakeE from k v ∷ []) (AddF into k v) add take.all)

-- the events below n are folded
pub record FoldedSoFar (from into : CpuId) (now old : Pass EventFacts EventStep) (n : ℕ) : Type 0 where
  pub found : List ℕ
  pub one_each : length found ≡ n
  pub made : Made events now old (folds from into 0 found)

pub folded-none : (from into : CpuId) (pass : Pass EventFacts EventStep) → IsIdleControl pass
    → FoldedSoFar from into pass pass 0
folded-none from into pass control =
    record { found = []; one_each = refl; made = calls-none events pass control.live }

folds-more : (from into : CpuId) (k : ℕ) (found : List ℕ) (v : ℕ)
    → folds from into k found ++ moves from into (k + length found) v ≡ folds from into k (found ++ v ∷ [])
folds-more from into k [] v =
    let here : k + 0 ≡ k = omega arith in
    ap (λ n. moves from into n v) here ∙ sym (append-nil (moves from into k v))
folds-more from into k (x ∷ found) v =
    let here : k + suc (length found) ≡ suc k + length found = omega arith in
    ap (λ n. (moves from into k x ++ folds from into (suc k) found) ++ moves from into n v) here
    ∙ append_assoc (moves from into k x) (folds from into (suc k) found) (moves from into (suc k + length found) v)
    ∙ ap (λ steps. moves from into k x ++ steps) (folds-more from into (suc k) found v)

pub folded-more : (from into : CpuId) (new now old : Pass EventFacts EventStep) (n v : ℕ)
    → FoldedSoFar from into now old n → Made events new now (moves from into n v)
    → FoldedSoFar from into new old (n + 1)
folded-more from into new now old n v so_far made = record {
  found = so_far.found ++ v ∷ [];
  one_each = length-append so_far.found (v ∷ []) ∙ omega (arith, so_far.one_each);
  made =
      let here : n ≡ 0 + length so_far.found = omega (arith, so_far.one_each) in
      subst (Made events new old)
      (ap (λ m. folds from into 0 so_far.found ++ moves from into m v) here ∙ folds-more from into 0 so_far.found v)
      (calls-both events new now old (folds from into 0 so_far.found) (moves from into n v) made so_far.made);
}
