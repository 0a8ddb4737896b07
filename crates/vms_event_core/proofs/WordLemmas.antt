-- What a step that meets its condition makes of the words.
use Rattle.std.proofs.Common.{◌≡◌, ℕ, ◌+◌, ◌&&◌, List, Option, Some, None, refl, ◌∙◌, length-set, if◌then◌else◌, nat_eq}
use Rattle.vms_history.specs.Common.{CpuId, Shape, cell, IsCpu}
use Rattle.vms_history.specs.declared.events.Event.{Event}
use Rattle.vms_history.proofs.Common.{get_or-set_cell, get_or-changed_cell}
use Rattle.vms_event_core.specs.declared.states.EventState.{EventState}
use Rattle.vms_event_core.specs.declared.steps.EventFacts.{EventFacts}
use Rattle.vms_event_core.specs.declared.steps.EventStep.{EventStep}
use Rattle.vms_event_core.specs.declared.steps.EventStep.TheVariants.{AddE, TakeE, AddF}
use Rattle.vms_event_core.specs.Common.{Meets, effect_of, effect, word_after, event_count, IsEvent, HasShape, word_at}
use Rattle.vms_event_core.specs.Common.{with_word}

module _ (shape : Shape) (s : EventState) (shaped : HasShape shape s) where
  -- a write changes one word
  pub word_at-with_word : (d l c k v : ℕ) → IsCpu shape d → IsEvent l → IsEvent k
      → word_at (with_word s d l v) c k ≡ (if nat_eq d c && nat_eq l k then v else word_at s c k)
  word_at-with_word d l c k v d_in l_in k_in =
      get_or-set_cell event_count shape.cpus s.words d l c k v 0 shaped d_in l_in k_in

  -- one that adds to the word changes it by that
  word_at-grown : (d l c k n : ℕ) → IsCpu shape d → IsEvent l → IsEvent k
      → word_at (with_word s d l (word_at s d l + n)) c k
      ≡ (if nat_eq d c && nat_eq l k then word_at s c k + n else word_at s c k)
  word_at-grown d l c k n d_in l_in k_in =
      get_or-changed_cell event_count shape.cpus (λ word. word + n) s.words d l c k 0 shaped d_in l_in k_in

  HasShape-with_word : (c k v : ℕ) → HasShape shape (with_word s c k v)
  HasShape-with_word c k v = length-set s.words (cell event_count c k) v ∙ shaped

  HasShape-effect_of : (step : EventStep) → HasShape shape (effect_of step s)
  HasShape-effect_of (TakeE c k v) = HasShape-with_word c.number k.number 0
  HasShape-effect_of (AddF c k v) = HasShape-with_word c.number k.number (word_at s c.number k.number + v)
  HasShape-effect_of _ = shaped

  -- a step leaves the number of words
  pub HasShape-effect : (facts : EventFacts) (who : Option CpuId) (step : EventStep)
      → HasShape shape (effect facts who step s)
  HasShape-effect facts None step = HasShape-effect_of step
  HasShape-effect facts (Some c) (AddE k n) = HasShape-with_word c.number k.number (word_at s c.number k.number + n)
  HasShape-effect facts (Some c) (TakeE d k v) = HasShape-with_word d.number k.number 0
  HasShape-effect facts (Some c) (AddF d k v) = HasShape-with_word d.number k.number (word_at s d.number k.number + v)
  HasShape-effect facts (Some c) _ = shaped

module _ (facts : EventFacts) (h : List (Event EventStep)) (s : EventState) (p : ℕ)
    (shaped : HasShape facts.layout s) where
  pub word_at-effect : (who : Option CpuId) (step : EventStep) (c k : ℕ)
      → ((o : CpuId) → who ≡ Some o → IsCpu facts.layout o.number) → Meets facts h s p step → IsEvent k
      → word_at (effect facts who step s) c k ≡ word_after who c k step (word_at s c k)
  word_at-effect (Some o) (AddE l n) c k known meets k_in =
      word_at-grown facts.layout s shaped o.number l.number c k n (known o refl) meets.event k_in
  word_at-effect None (AddE l n) c k known meets k_in = refl
  word_at-effect None (TakeE d l v) c k known meets k_in =
      word_at-with_word facts.layout s shaped d.number l.number c k 0 meets.finds.cpu meets.finds.event k_in
  word_at-effect (Some o) (TakeE d l v) c k known meets k_in =
      word_at-with_word facts.layout s shaped d.number l.number c k 0 meets.finds.cpu meets.finds.event k_in
  word_at-effect None (AddF d l v) c k known meets k_in =
      word_at-grown facts.layout s shaped d.number l.number c k v meets.cpu meets.event k_in
  word_at-effect (Some o) (AddF d l v) c k known meets k_in =
      word_at-grown facts.layout s shaped d.number l.number c k v meets.cpu meets.event k_in
  word_at-effect None _ c k known meets k_in = refl
  word_at-effect (Some o) _ c k known meets k_in = refl
