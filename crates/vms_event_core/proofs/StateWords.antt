-- For other crates too: the words in every legal history are those that the steps made.
use Rattle.std.proofs.Common.{◌≡◌, ℕ, [], ◌∷◌, Some, refl, ap, ◌∙◌}
use Rattle.vms_history.specs.Common.{CpuId, IsCpu, owner_in}
use Rattle.vms_history.proofs.Common.{owner_may_own, base_can_begin, state_after-keeps}
use Rattle.vms_event_core.specs.declared.steps.EventFacts.{EventFacts}
use Rattle.vms_event_core.specs.Common.{events, History, IsLegal, state_after, role, word_after, word_in, IsEvent}
use Rattle.vms_event_core.specs.Common.{HasShape, word_at}
use Rattle.vms_event_core.proofs.WordLemmas.{HasShape-effect, word_at-effect}

pub HasShape-state_after : (facts : EventFacts) (h : History) → IsLegal facts h
    → HasShape facts.layout (state_after facts h)
HasShape-state_after facts h legal =
    state_after-keeps events facts (HasShape facts.layout) (base_can_begin events facts h legal).shaped
    (λ who step s shaped. HasShape-effect facts.layout s shaped facts who step) h

-- what a pass owns is a CPU of the layout
pub owner_known : (facts : EventFacts) (h : History) (p : ℕ) → IsLegal facts h
    → (o : CpuId) → owner_in role h p ≡ Some o → IsCpu facts.layout o.number
owner_known facts h p legal o owns = (owner_may_own events facts h p o legal owns).0

-- the words that stand are those that the steps made
pub word_at-state_after : (facts : EventFacts) (h : History) (c k : ℕ) → IsLegal facts h → IsEvent k
    → word_at (state_after facts h) c k ≡ word_in facts h c k
word_at-state_after facts [] c k legal k_in = refl
word_at-state_after facts (e ∷ h) c k legal k_in =
    word_at-effect facts h (state_after facts h) e.caller (HasShape-state_after facts h legal.0)
    (owner_in role h e.caller) e.step c k
    (owner_known facts h e.caller legal.0) legal.2 k_in
    ∙ ap (word_after (owner_in role h e.caller) c k e.step) (word_at-state_after facts h c k legal.0 k_in)
