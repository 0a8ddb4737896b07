-- The words of one CPU move to those of another, event by event.
use Rattle.std.proofs.Common.{◌≡◌, ◌≢◌, ℕ, zero, suc, ◌+◌, ◌<◌, ◌≤◌, List, [], ◌∷◌, ◌++◌, length, None, refl, sym, ap}
use Rattle.std.proofs.Common.{subst, ◌∙◌, arith, append_assoc, length-set}
use Rattle.std.proofs.lemmas.List.{append-nil, length_push, set-get_or}
use Rattle.std.proofs.Math.ListN.{set}
use borrow.Author.Count.{below_more}
use Rattle.vms_history.specs.Common.{CpuId, cell, LeadsOn}
use Rattle.vms_history.proofs.Common.{LeadsOn-append}
use Rattle.vms_event_core.specs.declared.states.EventState.{EventState}
use Rattle.vms_event_core.specs.declared.steps.EventStep.{EventStep}
use Rattle.vms_event_core.specs.Common.{IsFoldEvents, folds, moves, IsEvent, event_count, with_word, word_at}
use Rattle.vms_plain_events.specs.Common.{HasWords, MovesWords, with_moved, events_by_state}
use Rattle.vms_plain_events.proofs.WrittenWords.{HasWords-with_word, word_at-kept, word_at-written}

-- the steps of one event more
folds-push : (from into : CpuId) (k n : ℕ) (found : List ℕ) (v : ℕ) → k + length found ≡ n
    → folds from into k (found ++ v ∷ []) ≡ folds from into k found ++ moves from into n v
folds-push from into k n [] v same =
    let here : k ≡ n = omega arith in
    append-nil (moves from into k v) ∙ ap (λ (i : ℕ). moves from into i v) here
folds-push from into k n (w ∷ found) v same =
    ap (λ (steps : List EventStep). moves from into k w ++ steps)
    (folds-push from into (suc k) n found v (omega arith))
    ∙ sym (append_assoc (moves from into k w) (folds from into (suc k) found) (moves from into n v))

module _ (from into : CpuId) (s : EventState) where
  -- the words of the events below m have moved
  pub record MovesBelow (m : ℕ) (now : EventState) : Type 0 where
    pub one_each : length now.words ≡ length s.words
    pub taken : (k : ℕ) → k < m → word_at now from.number k ≡ 0
    pub grown : (k : ℕ) → k < m
        → word_at now into.number k ≡ word_at s into.number k + word_at s from.number k
    pub ahead : (c k : ℕ) → IsEvent k → m ≤ k → word_at now c k ≡ word_at s c k
    pub others : (c k : ℕ) → IsEvent k → c ≢ from.number → c ≢ into.number → word_at now c k ≡ word_at s c k
    pub found : List ℕ
    pub one_found_each : length found ≡ m
    pub leads : LeadsOn events_by_state None (folds from into 0 found) s now

module _ (from into : CpuId) (other : from.number ≢ into.number) where
  abbrev moved : ℕ → EventState → EventState
  moved k s = with_moved from.number into.number k s

  -- a take leaves the word of the other CPU
  kept-into : (s : EventState) (k v : ℕ) → IsEvent k
      → word_at (with_word s from.number k v) into.number k ≡ word_at s into.number k
  kept-into s k v k_in = word_at-kept s from.number k v into.number k k_in k_in (λ same also. other (sym same))

  -- the steps of one event lead to the state in which its word has moved
  moves-lead : (s : EventState) (k : ℕ) → IsEvent k
      → LeadsOn events_by_state None (moves from into k (word_at s from.number k)) s (moved k s)
  moves-lead s k k_in = by (word_at s from.number k) refl
    where
      by : (v : ℕ) → word_at s from.number k ≡ v → LeadsOn events_by_state None (moves from into k v) s (moved k s)
      by zero is =
          let sum : word_at s into.number k + word_at s from.number k
          ≡ word_at (with_word s from.number k 0) into.number k =
          omega (arith, is, kept-into s k 0 k_in) in
          let same : set (set s.words (cell event_count from.number k) 0) (cell event_count into.number k)
          (word_at s into.number k + word_at s from.number k) ≡ set s.words (cell event_count from.number k) 0 =
          ap (set (set s.words (cell event_count from.number k) 0) (cell event_count into.number k)) sum
          ∙ set-get_or (set s.words (cell event_count from.number k) 0) (cell event_count into.number k) 0 in
          (is, sym (ap (λ (words : List ℕ). record s { words = words }) same))
      by (suc v) is =
          let sum : word_at (with_word s from.number k 0) into.number k + suc v
          ≡ word_at s into.number k + word_at s from.number k =
          omega (arith, is, kept-into s k 0 k_in) in
          (is, (tt, ap (λ (word : ℕ). with_word (with_word s from.number k 0) into.number k word) sum))

  module _ (s : EventState) where
    pub MovesBelow-none : MovesBelow from into s 0 s
    MovesBelow-none = record {
      one_each = refl;
      taken = λ k below. absurd (omega arith);
      grown = λ k below. absurd (omega arith);
      ahead = λ c k k_in past. refl;
      others = λ c k k_in first second. refl;
      found = [];
      one_found_each = refl;
      leads = refl;
    }

    pub HasWords-moved : (m n : ℕ) (now : EventState) → MovesBelow from into s m now → HasWords s n → HasWords now n
    HasWords-moved m n now so_far has = omega (arith, so_far.one_each)

    module _ (m : ℕ) (m_in : IsEvent m) (has_from : HasWords s (from.number + 1))
        (has_into : HasWords s (into.number + 1)) (now : EventState) (so_far : MovesBelow from into s m now) where
      abbrev sum : ℕ
      sum = word_at now into.number m + word_at now from.number m

      abbrev first : EventState
      first = with_word now from.number m 0

      abbrev next : EventState
      next = moved m now

      -- a word of another CPU or of another event stays
      kept : (c k : ℕ) → IsEvent k → (c ≡ from.number → k ≡ m → ⊥) → (c ≡ into.number → k ≡ m → ⊥)
          → word_at next c k ≡ word_at now c k
      kept c k k_in not_from not_into =
          word_at-kept first into.number m sum c k m_in k_in not_into
          ∙ word_at-kept now from.number m 0 c k m_in k_in not_from

      taken-next : word_at next from.number m ≡ 0
      taken-next =
          word_at-kept first into.number m sum from.number m m_in m_in (λ same also. other same)
          ∙ word_at-written now from.number m 0 (HasWords-moved m (from.number + 1) now so_far has_from) m_in

      grown-next : word_at next into.number m ≡ word_at s into.number m + word_at s from.number m
      grown-next =
          let has = HasWords-with_word now (into.number + 1) from.number m 0
          (HasWords-moved m (into.number + 1) now so_far has_into) in
          let was_into = so_far.ahead into.number m m_in (omega arith) in
          let was_from = so_far.ahead from.number m m_in (omega arith) in
          word_at-written first into.number m sum has m_in ∙ omega (arith, was_into, was_from)

      pub MovesBelow-more : MovesBelow from into s (m + 1) next
      MovesBelow-more = record {
        one_each = length-set first.words (cell event_count into.number m) sum
            ∙ length-set now.words (cell event_count from.number m) 0 ∙ so_far.one_each;
        taken = below_more (λ (k : ℕ). word_at next from.number k ≡ 0) m
            (λ k below. kept from.number k (omega arith) (λ same also. omega arith) (λ same also. omega arith)
            ∙ so_far.taken k below)
            taken-next;
        grown = below_more
            (λ (k : ℕ). word_at next into.number k ≡ word_at s into.number k + word_at s from.number k) m
            (λ k below. kept into.number k (omega arith) (λ same also. omega arith) (λ same also. omega arith)
            ∙ so_far.grown k below)
            grown-next;
        ahead = λ c k k_in past. kept c k k_in (λ same also. omega arith) (λ same also. omega arith)
            ∙ so_far.ahead c k k_in (omega arith);
        others = λ c k k_in not_from not_into.
            kept c k k_in (λ same also. not_from same) (λ same also. not_into same)
            ∙ so_far.others c k k_in not_from not_into;
        found = so_far.found ++ word_at now from.number m ∷ [];
        one_found_each = length_push so_far.found (word_at now from.number m)
            ∙ ap (λ (n : ℕ). n + 1) so_far.one_found_each;
        leads = subst (λ (steps : List EventStep). LeadsOn events_by_state None steps s next)
            (sym (folds-push from into 0 m so_far.found (word_at now from.number m)
            (omega (arith, so_far.one_found_each))))
            (LeadsOn-append events_by_state None (folds from into 0 so_far.found)
            (moves from into m (word_at now from.number m)) s now next so_far.leads (moves-lead now m m_in));
      }

    pub MovesWords-all : (now : EventState) → MovesBelow from into s event_count now
        → MovesWords from.number into.number s now
    MovesWords-all now so_far = record {
      one_each = so_far.one_each;
      taken = so_far.taken;
      grown = so_far.grown;
      others = so_far.others;
    }

    pub IsFoldEvents-all : (now : EventState) → MovesBelow from into s event_count now
        → (found : List ℕ) × (steps : List EventStep) × IsFoldEvents from into found steps
        × LeadsOn events_by_state None steps s now
    IsFoldEvents-all now so_far = (
      so_far.found,
      folds from into 0 so_far.found,
      record { one_each = so_far.one_found_each; in_order = refl },
      so_far.leads,
    )
