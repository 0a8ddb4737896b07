-- The zones of a draft stand by rank, so no layout is refused and the zones are laid out as they stand.
use Rattle.std.proofs.Common.{◌≤◌, ◌∙◌, ap, sym, subst}
use Rattle.std.proofs.lemmas.List.Elements.{All-map}
use Rattle.std.specs.List.{All}
use Rattle.vms_base.specs.Common.{IsRefused, LaysOut}
use Rattle.vms_header.specs.Common.{most_cpus, names_of, positions_of, draft_of}
use Rattle.vms_header.proofs.RankedLayouts.{LaysOut-ranked, names-rise, not-refused}
use Rattle.vms_header.proofs.layouts.layout_of.Goals as goal

pub make_layout-requires : goal.make_layout-requires
make_layout-requires c =
    let zones = c.args.draft.now.zones.items in
    let is = c.as_slice-2.ensures.value ∙ c.names_of-names.ensures ∙ ap names_of c.as_slice.ensures.value in
    subst (All (λ zone. zone.node ≤ 15)) (sym is)
    (All-map (λ zone. zone.node ≤ 15) (λ zone. zone.name) zones c.requires.draft.zones_nodes)

pub unreachable-requires : goal.unreachable-requires
unreachable-requires c =
    let draft = c.args.draft.now in
    let is = c.as_slice-2.ensures.value ∙ c.names_of-names.ensures ∙ ap names_of c.as_slice.ensures.value in
    not-refused (draft_of draft) c.in-Err.field-0 c.requires.draft c.requires.some
    (subst (λ names. IsRefused (most_cpus draft.wide) names draft.cpus c.in-Err.field-0) is c.in-Err.ensures)

pub returns : goal.returns
returns c =
    let draft = c.args.draft.now in
    let is = c.as_slice-2.ensures.value ∙ c.names_of-names.ensures ∙ ap names_of c.as_slice.ensures.value in
    LaysOut-ranked (names_of draft.zones.items) draft.cpus (positions_of draft.wide) c.in-Ok.layout
    (names-rise (draft_of draft) c.requires.draft)
    (subst (λ names. LaysOut names draft.cpus (positions_of draft.wide) c.in-Ok.layout) is c.in-Ok.ensures)
