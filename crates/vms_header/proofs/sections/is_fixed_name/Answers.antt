-- The fixed names are those of the zones' items and then those of the nodes' items.
use Rattle.std.proofs.Common.{◌∙◌, ◌||◌, sym, ap, bytes_eq}
use Rattle.std.proofs.lemmas.List.Folds.{list_any-append}
use Rattle.std.specs.List.{list_any}
use Rattle.vms_base.specs.Common.{node_items, zone_items}
use Rattle.vms_header.proofs.HeadNames.{list_any-texts}
use Rattle.vms_header.proofs.sections.is_fixed_name.Goals as goal

pub returns-then-is_listed : goal.returns-then-is_listed
returns-then-is_listed c =
    let name = c.args.name.now in
    let zones = list_any-texts name c.item_names.result.now zone_items c.is_listed.result c.item_names.ensures
    c.is_listed.ensures ∙ c.if-is_listed.true in
    c.if-is_listed.true ∙ sym (list_any-append (bytes_eq name) zone_items node_items
    ∙ ap (λ b. b || list_any (bytes_eq name) node_items) zones)

pub returns-else-is_listed : goal.returns-else-is_listed
returns-else-is_listed c =
    let name = c.args.name.now in
    let zones = list_any-texts name c.item_names.result.now zone_items c.is_listed.result c.item_names.ensures
    c.is_listed.ensures ∙ c.if-is_listed.false in
    let nodes = list_any-texts name c.item_names-else-is_listed.result.now node_items c.is_listed-else-is_listed.result
    c.item_names-else-is_listed.ensures c.is_listed-else-is_listed.ensures in
    sym (list_any-append (bytes_eq name) zone_items node_items
    ∙ ap (λ b. b || list_any (bytes_eq name) node_items) zones ∙ nodes)
