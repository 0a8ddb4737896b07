use Rattle.std.proofs.Common.{ap, option_and_then, option_map, sym, ◌∙◌}
use Rattle.vms_base.specs.Common.{zone_place}
use Rattle.vms_text.proofs.Nodes.{zone_place-absent}
use Rattle.vms_text.proofs.place_names.zone_named.Goals as goal

pub returns-in_err-node : goal.returns-in_err-node
returns-in_err-node c =
    let layout = c.args.layout.now in
    let node = c.args.node in
    ap (option_map (λ place. place.number)) c.from_residual-in_err-node.ensures
    ∙ sym (zone_place-absent layout node c.in_ok-kind.kind c.in_err-node.ensures.is_layout c.in_err-node.ensures.none)
    ∙ ap (option_and_then (λ kind. zone_place layout (record { node = node; kind = kind })))
    (sym c.in_ok-kind.was ∙ c.kind_named.ensures)
