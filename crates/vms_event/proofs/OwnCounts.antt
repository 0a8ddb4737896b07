-- A pass may count on its own CPU, and its volumes cover what it has counted.
use Rattle.std.proofs.Common.{◌≡◌, ℕ, ◌<◌, ◌≤◌, ◌+◌, ◌%◌, ◌^◌, Bool, true, false, nat_eq, ◌&&◌, List, [], ◌∷◌, length}
use Rattle.std.proofs.Common.{slice_index, slice_set, Some, if◌then◌else◌, refl, ap, sym, ◌∙◌, subst, arith, eq-eqb}
use Rattle.std.proofs.Common.{eqb-true, get_or-set_same, get_or-set_other, length-set}
use Rattle.std.proofs.lemmas.Bool.{eqb-false}
use Rattle.std.proofs.lemmas.Nat.{mod-mul-add}
use Rattle.vms_history.specs.Common.{CpuId, CpuState, EventId, Shape, most_volume, owner_in}
use Rattle.vms_event_core.specs.declared.states.EventState.{EventState}
use Rattle.vms_event_core.specs.declared.steps.EventFacts.{EventFacts}
use Rattle.vms_event_core.specs.declared.steps.EventStep.{EventStep}
use Rattle.vms_event_core.specs.declared.steps.EventStep.TheVariants.{AddE}
use Rattle.vms_event_core.specs.Common.{events, History, state_after, role, effect, spent, spent_by, IsEvent, word_at}
use Rattle.vms_event_core.proofs.Common.{beginnings-kept, owner_known}
use Rattle.vms_event.specs.Common.{IsCpuPass, AreMadeFor, event_place}
use Rattle.vms_event.specs.SharedWords.{shown}
use Rattle.vms_seats.specs.Common.{Pass, Shared, IsFrom, MadeOne, MayStep}
use Rattle.vms_seats.proofs.Common.{calls-live}
use Rattle.vms_event.proofs.KnownSpending.{given, owner-same, spent-same}
use Rattle.vms_event.proofs.ShownWords.{shown-word, shown-with_word}

-- a number below 2^64 is not wrapped
pub unwrapped : (x : ℕ) → x < 2 ^ 64 → x % 2 ^ 64 ≡ x
unwrapped x below = ap (λ y. y % 2 ^ 64) (omega arith) ∙ mod-mul-add 0 (2 ^ 64) x below

module _ (pass : Pass EventFacts EventStep) (cpu : CpuId) (volume : List ℕ) (mine : IsCpuPass pass cpu volume)
    (event : EventId) (n : ℕ) (event_in : IsEvent event.number) where
  owns : owner_in role pass.seen pass.number ≡ Some cpu
  owns = mine.live.owner ∙ mine.owns

  abbrev place : ℕ
  place = event_place cpu.number event.number

  pub count-may : slice_index volume event.number + n ≤ most_volume
      → MayStep events shown pass place (λ found. (found + n) % 2 ^ 64) (λ found. AddE event n)
  count-may room h found goes small stands =
      let owns_now : owner_in role h pass.number ≡ Some cpu = owner-same pass h goes ∙ owns in
      let spent_now = spent-same pass h goes cpu owns event.number in
      let within = mine.covers.spent_within event.number event_in in
      let laws = beginnings-kept pass.facts [] h goes.legal in
      let known = owner_known pass.facts h pass.number goes.legal cpu owns_now in
      let bound = laws.bounds.words cpu.number event.number known event_in in
      let s : EventState = state_after pass.facts h in
      let is : word_at s cpu.number event.number ≡ found =
      sym (shown-word pass.facts s cpu.number event.number known event_in) ∙ stands in
      let below = laws.bounds.below in
      let least = (given pass h goes).0 in
      let fits : found + n < 2 ^ 64 = omega (arith, bound, below, is, room) in
      record {
        legal = (
          goes.legal,
          ((λ main. let some = least in omega arith), goes.lives),
          record {
            cpu = cpu;
            owns = owns_now;
            event = event_in;
            affordable = omega (arith, spent_now, within, room);
          },
        );
        shows = ap (λ who. shown pass.facts (effect pass.facts who (AddE event n) s)) owns_now
            ∙ shown-with_word pass.facts s laws.shape cpu.number event.number known event_in
            (word_at s cpu.number event.number + n)
            ∙ ap (slice_set (shown pass.facts s) place)
            (ap (λ word. word + n) is ∙ sym (unwrapped (found + n) fits));
      }

  -- the word that the pass counts in is one of the table's
  pub own-place : (layout : Shape) (cpus : List CpuState) (words : Shared EventFacts) → AreMadeFor layout cpus words
      → IsFrom pass words → place < words.table.words
  own-place layout cpus words for of =
      let known : cpu.number < words.facts.layout.cpus = subst (λ (f : EventFacts). cpu.number < f.layout.cpus)
      of.facts (owner_known pass.facts pass.seen pass.number mine.live.legal cpu owns) in
      let count = for.count in
      omega (arith, count, known, event_in)

  -- the volumes after a count
  pub counted-covers : (new : Pass EventFacts EventStep) → MadeOne events new pass (AddE event n)
      → IsCpuPass new cpu (slice_set volume event.number (slice_index volume event.number + n))
  counted-covers new one = record {
    live = calls-live events new pass (AddE event n ∷ []) mine.live one.all;
    owns = one.all.cpu ∙ mine.owns;
    covers = record {
      one_each = length-set volume event.number (slice_index volume event.number + n) ∙ mine.covers.one_each;
      spent_within = λ k k_in. by k k_in (nat_eq event.number k) refl;
    };
  }
    where
      h : History
      h = one.at.before

      owns_then : owner_in role h pass.number ≡ Some cpu
      owns_then = owner-same pass h one.at.others ∙ owns

      spent_is : (k : ℕ) → spent new.seen cpu.number k
          ≡ spent_by (Some cpu) cpu.number k (AddE event n) + spent pass.seen cpu.number k
      spent_is k = ap (λ g. spent g cpu.number k) one.at.newest
          ∙ ap (λ who. spent_by who cpu.number k (AddE event n) + spent h cpu.number k) owns_then
          ∙ ap (λ x. spent_by (Some cpu) cpu.number k (AddE event n) + x)
          (spent-same pass h one.at.others cpu owns k)

      cost : (k : ℕ) (b : Bool) → nat_eq event.number k ≡ b
          → spent_by (Some cpu) cpu.number k (AddE event n) ≡ (if b then n else 0)
      cost k b same = ap (λ a. if a && nat_eq event.number k then n else 0) (eq-eqb cpu.number cpu.number refl)
          ∙ ap (λ c. if c then n else 0) same

      by : (k : ℕ) → IsEvent k → (b : Bool) → nat_eq event.number k ≡ b
          → spent new.seen cpu.number k
          ≤ slice_index (slice_set volume event.number (slice_index volume event.number + n)) k
      by k k_in true same =
          let here : event.number ≡ k = eqb-true event.number k same in
          let within = mine.covers.spent_within k k_in in
          let long = mine.covers.one_each in
          let inside : event.number < length volume = omega (arith, event_in, long) in
          let set_is = get_or-set_same volume event.number (slice_index volume event.number + n) 0 inside in
          subst
          (λ i. spent new.seen cpu.number k
          ≤ slice_index (slice_set volume event.number (slice_index volume event.number + n)) i)
          here
          (subst (λ x. spent new.seen cpu.number k ≤ x) (sym set_is)
          (omega (arith, spent_is k, cost k true same, within, ap (slice_index volume) here)))
      by k k_in false same =
          let within = mine.covers.spent_within k k_in in
          let set_is = get_or-set_other volume event.number k (slice_index volume event.number + n) 0
          (λ here. eqb-false event.number k same (sym here)) in
          subst (λ x. spent new.seen cpu.number k ≤ x) (sym set_is)
          (omega (arith, spent_is k, cost k false same, within))
