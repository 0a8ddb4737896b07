-- What stands in the words of a CPU that is dead in the base.
use Rattle.std.proofs.Common.{◌≡◌, ◌≢◌, ℕ, zero, suc, ◌+◌, ◌&&◌, ◌⊎◌, inl, inr, Bool, true, false, [], ◌∷◌, Option}
use Rattle.std.proofs.Common.{Some, None, ℤ, pos, ◌+ℤ◌, refl, sym, ap, subst, ◌∙◌, arith, if◌then◌else◌, nat_eq}
use Rattle.std.proofs.Common.{eqb-true}
use Rattle.std.proofs.lemmas.Int.{ints}
use Rattle.vms_history.specs.Common.{CpuId, Online, Dead, total, owner_in}
use Rattle.vms_history.proofs.Common.{TakenOnce, TakenOnce-none, TakenOnce-left, TakenOnce-taken}
use Rattle.vms_event_core.specs.declared.states.EventState.{EventState}
use Rattle.vms_event_core.specs.declared.steps.EventFacts.{EventFacts}
use Rattle.vms_event_core.specs.declared.steps.EventStep.{EventStep}
use Rattle.vms_event_core.specs.declared.steps.EventStep.TheVariants.{AddE, TakeE, AddF}
use Rattle.vms_event_core.specs.Common.{cpu_at, Meets, History, IsLegal, state_after, MovesOnce, role, taken_from}
use Rattle.vms_event_core.specs.Common.{takes_by, takes, found_some, word_after, word_in, IsEvent, word_at}
use Rattle.vms_event_core.proofs.StateWords.{word_at-state_after}
use Rattle.vms_event_core.proofs.OfflineCpus.{owner-online, added-elsewhere}

module _ (facts : EventFacts) (h : History) (s : EventState) (p c k word : ℕ) (dead : cpu_at facts c ≡ Dead)
    (told : word_at s c k ≡ word) (was taken : ℤ) (takings : ℕ) (before : TakenOnce was (pos word) taken takings) where
  -- what a step makes of a dead CPU's word, what it takes and how many takes find something by it
  abbrev Makes : ℕ → ℤ → ℕ → Type 0
  Makes after amount took = TakenOnce was (pos after) (amount +ℤ taken) (took + takings)

  stays : Makes word (pos 0) 0
  stays =
      let same : 0 + takings ≡ takings = omega arith in
      rw same (TakenOnce-left was (pos word) taken takings before)

  counts : (n : ℕ) → ((pos n ≡ pos 0) × (found_some n + takings ≡ takings))
      ⊎ ((pos n ≢ pos 0) × (found_some n + takings ≡ suc takings))
  counts zero = inl (refl, omega arith)
  counts (suc n) = inr (λ e. omega (arith, ints), omega arith)

  takes_if : (a b : Bool) (v : ℕ) → (a ≡ true → b ≡ true → v ≡ word)
      → Makes (if a && b then 0 else word) (if a && b then pos v else pos 0) (if a && b then found_some v else 0)
  takes_if true true v found =
      subst (λ n. Makes 0 (pos n) (found_some n)) (sym (found refl refl))
      (TakenOnce-taken was (pos word) taken takings before (found_some word + takings) (counts word))
  takes_if true false v found = stays
  takes_if false b v found = stays

  untouched : (d l n : ℕ) → cpu_at facts d ≡ Online
      → Makes (if nat_eq d c && nat_eq l k then word + n else word) (pos 0) 0
  untouched d l n online =
      rw (added-elsewhere facts c (λ is_online. absurd cc) d (nat_eq l k) word n online) stays

  TakenOnce-step : (who : Option CpuId) (step : EventStep) → owner_in role h p ≡ who
      → ((o : CpuId) → who ≡ Some o → cpu_at facts o.number ≡ Online) → Meets facts h s p step
      → Makes (word_after who c k step word) (taken_from c k step) (takes_by c k step)
  TakenOnce-step (Some o) (AddE l n) is known meets = untouched o.number l.number n (known o refl)
  TakenOnce-step None (AddE l n) is known meets = stays
  TakenOnce-step None (AddF d l v) is known meets = untouched d.number l.number v meets.lowest.online
  TakenOnce-step (Some o) (AddF d l v) is known meets = untouched d.number l.number v meets.lowest.online
  TakenOnce-step None (TakeE d l v) is known meets =
      takes_if (nat_eq d.number c) (nat_eq l.number k) v (λ cpus kinds.
      sym meets.finds.value ∙ ap (λ n. word_at s n l.number) (eqb-true d.number c cpus)
      ∙ ap (word_at s c) (eqb-true l.number k kinds) ∙ told)
  TakenOnce-step (Some o) (TakeE d l v) is known meets = let control = meets.control in absurd (cc)
  TakenOnce-step None _ is known meets = stays
  TakenOnce-step (Some o) _ is known meets = stays

-- the same over a whole history
TakenOnce-history : (facts : EventFacts) (h : History) (c k : ℕ) → IsLegal facts h → cpu_at facts c ≡ Dead → IsEvent k
    → TakenOnce (pos (word_at facts.base c k)) (pos (word_in facts h c k)) (total (taken_from c k) h) (takes c k h)
TakenOnce-history facts [] c k legal dead k_in = TakenOnce-none (pos (word_at facts.base c k))
TakenOnce-history facts (e ∷ h) c k legal dead k_in =
    TakenOnce-step facts h (state_after facts h) e.caller c k (word_in facts h c k) dead
    (word_at-state_after facts h c k legal.0 k_in) (pos (word_at facts.base c k)) (total (taken_from c k) h)
    (takes c k h)
    (TakenOnce-history facts h c k legal.0 dead k_in) (owner_in role h e.caller) e.step refl
    (owner-online facts h e.caller legal.0) legal.2

pub dead_words-move_once : (facts : EventFacts) (h : History) (c k : ℕ) → IsLegal facts h → cpu_at facts c ≡ Dead
    → IsEvent k
    → MovesOnce facts h c k
dead_words-move_once facts h c k legal dead k_in =
    let moves = TakenOnce-history facts h c k legal dead k_in in
    record { kept = rw (word_at-state_after facts h c k legal k_in) moves.total; once = moves.once }
