-- The goals were that the words are those of the layout, and that there is room for every word.
use Rattle.std.proofs.Common.{◌≡◌, ◌∙◌, length, ap, sym, subst}
use Rattle.vms_history.proofs.Common.{base_can_begin}
use Rattle.vms_history.specs.Common.{IsLayout}
use Rattle.vms_event_core.specs.declared.steps.EventFacts.{EventFacts}
use Rattle.vms_event_core.specs.declared.steps.EventStep.{EventStep}
use Rattle.vms_event_core.specs.Common.{HasShape, events, state_after}
use Rattle.vms_event_core.proofs.Common.{HasShape-state_after}
use Rattle.vms_seats.specs.Common.{Phase, Shared}
use Rattle.vms_event.proofs.tables.EventTable.close.Goals as goal

pub write_words-requires-clause-layout : goal.write_words-requires-clause-layout
write_words-requires-clause-layout c = subst IsLayout c.self.invariant.same_layout c.self.invariant.base.layout

pub write_words-requires-clause-same : goal.write_words-requires-clause-same
write_words-requires-clause-same c =
    ap (λ (p : Phase EventFacts EventStep). p.facts.layout) c.close-closing.ensures.history
    ∙ c.self.invariant.same_layout

pub write_words-requires-clause-shaped : goal.write_words-requires-clause-shaped
write_words-requires-clause-shaped c =
    let facts = c.self.inside.words.facts in
    subst
    (λ (p : Phase EventFacts EventStep). HasShape c.self.inside.layout (state_after p.facts p.events))
    (sym c.close-closing.ensures.history)
    (subst (λ shape. HasShape shape (state_after facts c.args.main.seen)) c.self.invariant.same_layout
    (HasShape-state_after facts c.args.main.seen c.close-closing.ensures.complete.legal))

pub write_words-requires-clause-room : goal.write_words-requires-clause-room
write_words-requires-clause-room c =
    let facts = c.self.inside.words.facts in
    let legal = c.close-closing.ensures.complete.legal in
    let room = subst (λ (s : Shared EventFacts). length c.args.into.now.words ≡ length s.facts.base.words)
    (sym c.self.view_is) c.requires.room in
    subst
    (λ (p : Phase EventFacts EventStep). length c.args.into.now.words ≡ length (state_after p.facts p.events).words)
    (sym c.close-closing.ensures.history)
    (room ∙ (base_can_begin events facts c.args.main.seen legal).shaped
    ∙ sym (HasShape-state_after facts c.args.main.seen legal))
