-- What stands in the words of a CPU that is not online: no step adds to them.
use Rattle.std.proofs.Common.{◌≡◌, ◌≢◌, ℕ, ◌+◌, ◌&&◌, Bool, true, false, [], ◌∷◌, ◌++◌, Option, Some, None, refl, sym}
use Rattle.std.proofs.Common.{ap, ◌∙◌, if◌then◌else◌, nat_eq, eqb-true}
use Rattle.vms_history.specs.Common.{CpuId, Online, Absent, IsCpu, owner_in}
use Rattle.vms_history.proofs.Common.{if-either, owner_may_own, prefix_is_legal}
use Rattle.vms_event_core.specs.declared.states.EventState.{EventState}
use Rattle.vms_event_core.specs.declared.steps.EventFacts.{EventFacts}
use Rattle.vms_event_core.specs.declared.steps.EventStep.{EventStep}
use Rattle.vms_event_core.specs.declared.steps.EventStep.TheVariants.{AddE, TakeE, AddF}
use Rattle.vms_event_core.specs.Common.{cpu_at, Meets, events, History, IsLegal, state_after, role, word_after, word_in}
use Rattle.vms_event_core.specs.Common.{IsEvent, word_at}
use Rattle.vms_event_core.proofs.StateWords.{word_at-state_after}

-- who acts for a CPU acts for one that is online
pub owner-online : (facts : EventFacts) (h : History) (p : ℕ) → IsLegal facts h
    → (o : CpuId) → owner_in role h p ≡ Some o → cpu_at facts o.number ≡ Online
owner-online facts h p legal o owns = (owner_may_own events facts h p o legal owns).1

module _ (facts : EventFacts) (c : ℕ) (offline : cpu_at facts c ≢ Online) where
  -- what is added to a word of a CPU that is online is not added to one of this CPU
  pub added-elsewhere : (d : ℕ) (b : Bool) (word n : ℕ) → cpu_at facts d ≡ Online
      → (if nat_eq d c && b then word + n else word) ≡ word
  added-elsewhere d b word n online = by (nat_eq d c) refl
    where
      by : (a : Bool) → nat_eq d c ≡ a → (if a && b then word + n else word) ≡ word
      by true same = absurd (offline (ap (cpu_at facts) (sym (eqb-true d c same)) ∙ online))
      by false other = refl

  -- a step leaves a 0
  pub zero-after : (h : History) (s : EventState) (p k : ℕ) (who : Option CpuId) (step : EventStep)
      → ((o : CpuId) → who ≡ Some o → cpu_at facts o.number ≡ Online) → Meets facts h s p step
      → word_after who c k step 0 ≡ 0
  zero-after h s p k (Some o) (AddE l n) known meets = added-elsewhere o.number (nat_eq l.number k) 0 n (known o refl)
  zero-after h s p k None (AddE l n) known meets = refl
  zero-after h s p k None (AddF d l v) known meets =
      added-elsewhere d.number (nat_eq l.number k) 0 v meets.lowest.online
  zero-after h s p k (Some o) (AddF d l v) known meets =
      added-elsewhere d.number (nat_eq l.number k) 0 v meets.lowest.online
  zero-after h s p k None (TakeE d l v) known meets = if-either (nat_eq d.number c && nat_eq l.number k) 0
  zero-after h s p k (Some o) (TakeE d l v) known meets = if-either (nat_eq d.number c && nat_eq l.number k) 0
  zero-after h s p k None _ known meets = refl
  zero-after h s p k (Some o) _ known meets = refl

  -- so a word that is 0 stays 0
  pub zero-stays : (m h : History) (k : ℕ) → IsLegal facts (m ++ h) → word_in facts h c k ≡ 0
      → word_in facts (m ++ h) c k ≡ 0
  zero-stays [] h k legal none = none
  zero-stays (e ∷ m) h k legal none =
      ap (word_after (owner_in role (m ++ h) e.caller) c k e.step) (zero-stays m h k legal.0 none)
      ∙ zero-after (m ++ h) (state_after facts (m ++ h)) e.caller k (owner_in role (m ++ h) e.caller) e.step
      (owner-online facts (m ++ h) e.caller legal.0) legal.2

-- the same of the words that stand
pub zero_word-stays : (facts : EventFacts) (m h : History) (c k : ℕ) → IsLegal facts (m ++ h)
    → cpu_at facts c ≢ Online → IsEvent k → word_at (state_after facts h) c k ≡ 0
    → word_at (state_after facts (m ++ h)) c k ≡ 0
zero_word-stays facts m h c k legal offline k_in none =
    let stood = word_at-state_after facts h c k (prefix_is_legal events facts m h legal) k_in in
    word_at-state_after facts (m ++ h) c k legal k_in
    ∙ zero-stays facts c offline m h k legal (sym stood ∙ none)

-- an absent CPU has counted nothing in the base, nor later
pub absent-zero : (facts : EventFacts) (h : History) (c k : ℕ) → IsLegal facts h → IsCpu facts.layout c
    → cpu_at facts c ≡ Absent → IsEvent k → word_in facts h c k ≡ 0
absent-zero facts h c k legal c_in absent k_in = stays h legal
  where
    stays : (g : History) → IsLegal facts g → word_in facts g c k ≡ 0
    stays [] base = base.absent c k c_in absent k_in
    stays (e ∷ g) legal =
        zero-stays facts c (λ online. absurd cc) (e ∷ []) g k legal (stays g legal.0)
