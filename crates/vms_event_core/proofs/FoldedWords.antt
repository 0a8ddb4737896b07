-- The words of a CPU that was folded are 0.
use Rattle.std.proofs.Common.{◌≡◌, ℕ, zero, suc, ◌+◌, ◌<◌, ◌≤◌, ◌&&◌, Bool, true, false, true≢false, List, [], ◌∷◌}
use Rattle.std.proofs.Common.{◌++◌, length, Option, Some, None, inl, inr, refl, sym, ap, ◌∙◌, arith, if◌then◌else◌}
use Rattle.std.proofs.Common.{nat_eq, eq-eqb, eqb-true}
use Rattle.std.proofs.lemmas.Bool.{and_parts, cases_lt}
use Rattle.vms_history.specs.Common.{CpuId, Dead, own, after, owner_in}
use Rattle.vms_history.specs.declared.events.Event.{Event}
use Rattle.vms_event_core.specs.declared.states.EventState.{EventState}
use Rattle.vms_event_core.specs.declared.steps.EventFacts.{EventFacts}
use Rattle.vms_event_core.specs.declared.steps.EventStep.{EventStep}
use Rattle.vms_event_core.specs.declared.steps.EventStep.TheVariants.{TakeE}
use Rattle.vms_event_core.specs.Common.{cpu_at, folds, Meets, History, IsLegal, state_after, LeavesZeros, role}
use Rattle.vms_event_core.specs.Common.{word_after, word_in}
use Rattle.vms_event_core.proofs.OfflineCpus.{zero-stays}
use Rattle.vms_event_core.proofs.StateWords.{word_at-state_after}

-- whether a step takes the word of CPU c for event k
abbrev takes_word : ℕ → ℕ → EventStep → Bool
takes_word c k (TakeE d l v) = nat_eq d.number c && nat_eq l.number k
takes_word c k _ = false

-- whether one of these events does
abbrev has_taken : ℕ → ℕ → List (Event EventStep) → Bool
has_taken c k [] = false
has_taken c k (e ∷ es) = if takes_word c k e.step then true else has_taken c k es

module _ (facts : EventFacts) (c k : ℕ) where
  -- a dead CPU's word that is 0
  record IsTaken (h : History) : Type 0 where
    dead : cpu_at facts c ≡ Dead
    none : word_in facts h c k ≡ 0

  take-empties : (h : History) (s : EventState) (p word : ℕ) (who : Option CpuId) (step : EventStep)
      → Meets facts h s p step → takes_word c k step ≡ true
      → (cpu_at facts c ≡ Dead) × (word_after who c k step word ≡ 0)
  take-empties h s p word None (TakeE d l v) meets takes = (
    ap (cpu_at facts) (sym (eqb-true d.number c (and_parts (nat_eq d.number c) (nat_eq l.number k) takes).0))
        ∙ meets.dead,
    ap (λ b. if b then 0 else word) takes,
  )
  take-empties h s p word (Some o) (TakeE d l v) meets takes = (
    ap (cpu_at facts) (sym (eqb-true d.number c (and_parts (nat_eq d.number c) (nat_eq l.number k) takes).0))
        ∙ meets.dead,
    ap (λ b. if b then 0 else word) takes,
  )
  take-empties h s p word who _ meets takes = absurd (true≢false (sym takes))

  IsTaken-next : (e : Event EventStep) (h : History) → IsLegal facts (e ∷ h) → IsTaken h → IsTaken (e ∷ h)
  IsTaken-next e h legal taken =
      let dead = taken.dead in
      record { dead = dead; none = zero-stays facts c (λ online. absurd cc) (e ∷ []) h k legal taken.none }

  -- a word that a caller has taken is 0
  taken-zero : (h : History) (p : ℕ) → IsLegal facts h → has_taken c k (own h p) ≡ true → IsTaken h
  taken-zero [] p legal some = absurd (true≢false (sym some))
  taken-zero (e ∷ h) p legal some = by (nat_eq e.caller p) some (taken-zero h p legal.0)
    where
      at : (b : Bool) → takes_word c k e.step ≡ b → (if b then true else has_taken c k (own h p)) ≡ true
          → (has_taken c k (own h p) ≡ true → IsTaken h) → IsTaken (e ∷ h)
      at true takes some before =
          let empties = take-empties h (state_after facts h) e.caller (word_in facts h c k)
          (owner_in role h e.caller) e.step legal.2 takes in
          record { dead = empties.0; none = empties.1 }
      at false other some before = IsTaken-next e h legal (before some)

      by : (b : Bool) → has_taken c k (if b then e ∷ own h p else own h p) ≡ true
          → (has_taken c k (own h p) ≡ true → IsTaken h) → IsTaken (e ∷ h)
      by true some before = at (takes_word c k e.step) refl some before
      by false some before = IsTaken-next e h legal (before some)

has_taken-steps : (c k p : ℕ) (steps : List EventStep) (h : History) → has_taken c k h ≡ true
    → has_taken c k (after p steps h) ≡ true
has_taken-steps c k p [] h taken = taken
has_taken-steps c k p (step ∷ steps) h taken =
    has_taken-steps c k p steps (record { caller = p; step = step } ∷ h) (by (takes_word c k step))
  where
    by : (b : Bool) → (if b then true else has_taken c k h) ≡ true
    by true = refl
    by false = taken

-- a fold takes each word of the CPU
take-taken : (from : CpuId) (k j v p : ℕ) (h : History) → j ≡ k
    → has_taken from.number k (record { caller = p; step = TakeE from (record { number = j }) v } ∷ h) ≡ true
take-taken from k j v p h same =
    let here : (nat_eq from.number from.number && nat_eq j k) ≡ true =
    rw (eq-eqb from.number from.number refl, eq-eqb j k same) refl in
    ap (λ b. if b then true else has_taken from.number k h) here

folds-take : (from into : CpuId) (k j p : ℕ) (found : List ℕ) (h : History) → j ≤ k → k < j + length found
    → has_taken from.number k (after p (folds from into j found) h) ≡ true
folds-take from into k j p [] h least below = absurd (omega arith)
folds-take from into k j p (zero ∷ found) h least below = elim (cases_lt j k) [
  | inl later ↦ folds-take from into k (suc j) p found _ (omega arith) (omega arith)
  | inr here ↦ has_taken-steps from.number k p (folds from into (suc j) found) _
      (take-taken from k j 0 p h (omega arith))
]
folds-take from into k j p (suc v ∷ found) h least below = elim (cases_lt j k) [
  | inl later ↦ folds-take from into k (suc j) p found _ (omega arith) (omega arith)
  | inr here ↦ has_taken-steps from.number k p (folds from into (suc j) found) _
      (take-taken from k j (suc v) p h (omega arith))
]

pub folded-zeros : LeavesZeros
folded-zeros facts more later earlier p from into found steps k made call legal k_in =
    let takes : has_taken from.number k (own later p) ≡ true =
    ap (has_taken from.number k) (made.made ∙ ap (λ ks. after p ks (own earlier p)) call.in_order)
    ∙ folds-take from into k 0 p found (own earlier p) (omega arith) (let eight = call.one_each in omega arith) in
    let taken = taken-zero facts from.number k later p made.legal takes in
    let dead = taken.dead in
    word_at-state_after facts (more ++ later) from.number k legal k_in
    ∙ zero-stays facts from.number (λ online. absurd cc) more later k legal taken.none
