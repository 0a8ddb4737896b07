-- The fixed names come before the declared ones.
use Rattle.std.proofs.Common.{◌∙◌, ◌||◌, sym, ap, bytes_eq}
use Rattle.std.specs.List.{list_any}
use Rattle.vms_header.proofs.HeadNames.{is_item_name-parts}
use Rattle.vms_header.proofs.sections.is_item_name.Goals as goal

pub returns-else-is_fixed_name : goal.returns-else-is_fixed_name
returns-else-is_fixed_name c =
    let declared = c.is_declared_name.ensures in
    let fixed = sym c.is_fixed_name.ensures ∙ c.if-is_fixed_name.false in
    declared ∙ sym (is_item_name-parts c.args.items.now c.args.name.now
    ∙ ap (λ b. b || list_any (λ item. bytes_eq c.args.name.now item.name) c.args.items.now) fixed)
