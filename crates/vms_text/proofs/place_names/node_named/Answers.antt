use Rattle.std.proofs.Common.{ap, option_map, sym, ◌∙◌}
use Rattle.vms_text.proofs.Nodes.{node_place-absent}
use Rattle.vms_text.proofs.place_names.node_named.Goals as goal

pub returns-in_err-node : goal.returns-in_err-node
returns-in_err-node c =
    ap (option_map (λ place. place.number)) c.from_residual.ensures
    ∙ sym (node_place-absent c.args.layout.now c.args.node c.in_err-node.ensures.none)
