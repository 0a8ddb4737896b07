-- The goals were that the words are those of the layout, and that the words of each row are there.
use Rattle.std.proofs.Common.{◌≡◌, ◌∙◌, ℕ, ap, sym, rules}
use Rattle.vms_history.proofs.Common.{base_can_begin}
use Rattle.vms_seats.specs.Common.{Phase}
use Rattle.vms_calls.specs.Common.{State, Facts, Shape, Step, HasShape, group_count, pages, place_count, state_after}
use Rattle.vms_core.specs.Pages.{IsLegal}
use Rattle.vms_words.specs.declared.spots.Blocks.{Blocks}
use Rattle.vms_words.specs.Common.{AreThere}
use Rattle.vms_words.specs.Spots.{blocks_of}
use Rattle.vms_words.proofs.LastStates.{are-there}
use Rattle.vms_words.proofs.tables.PageTable.close.Goals as goal

there : (phase : Phase Facts Step) (blocks : Blocks) (cpus groups places : ℕ) (into : State)
    → IsLegal phase.facts phase.events → blocks ≡ blocks_of phase.facts.layout → cpus ≡ phase.facts.layout.cpus
    → groups ≡ group_count phase.facts.layout → places ≡ place_count phase.facts.layout
    → HasShape phase.facts.layout into
    → AreThere phase.facts (state_after phase.facts phase.events) blocks cpus groups places into
there phase blocks cpus groups places into legal =
    are-there phase.facts (state_after phase.facts phase.events) blocks cpus groups places into
    (base_can_begin pages phase.facts phase.events legal).layout

pub write_state-requires-clause-laid : goal.write_state-requires-clause-laid
write_state-requires-clause-laid c =
    c.self.invariant.laid
    ∙ ap blocks_of (sym (ap (λ (p : Phase Facts Step). p.facts.layout) c.close-closing.ensures.history
    ∙ c.self.invariant.same))

pub write_state-requires-clause-counts : goal.write_state-requires-clause-counts
write_state-requires-clause-counts c =
    let same : c.self.inside.layout ≡ c.close-closing.result.facts.layout =
    sym (ap (λ (p : Phase Facts Step). p.facts.layout) c.close-closing.ensures.history ∙ c.self.invariant.same) in (
      c.cpus-cpus.ensures.value ∙ ap (λ (shape : Shape). shape.cpus) same,
      c.groups-groups.ensures.value ∙ ap group_count same,
      c.places-places.ensures.value ∙ ap place_count same,
    )

pub write_state-requires-clause-there : goal.write_state-requires-clause-there
write_state-requires-clause-there c =
    let same : c.self.inside.layout ≡ c.close-closing.result.facts.layout =
    sym (ap (λ (p : Phase Facts Step). p.facts.layout) c.close-closing.ensures.history ∙ c.self.invariant.same) in
    there c.close-closing.result c.self.inside.blocks c.cpus-cpus.result c.groups-groups.result c.places-places.result
    c.args.into.now (search rules) (c.self.invariant.laid ∙ ap blocks_of same)
    (c.cpus-cpus.ensures.value ∙ ap (λ (shape : Shape). shape.cpus) same)
    (c.groups-groups.ensures.value ∙ ap group_count same) (c.places-places.ensures.value ∙ ap place_count same)
    (search rules)
