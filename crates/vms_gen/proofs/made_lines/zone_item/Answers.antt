use Rattle.std.proofs.Common.{◌%◌, lit<}
use Rattle.std.proofs.Math.Nat.{mod-lt}
use Rattle.vms_gen.proofs.Rooms.{name-of, name-short}
use Rattle.vms_gen.proofs.made_lines.zone_item.Goals as goal

pub returns-clause-name : goal.returns-clause-name
returns-clause-name c =
    name-of c.item_names.result.now (c.args.number % 8) _ _ c.as_bytes.ensures.value c.item_names.ensures
    (mod-lt c.args.number {m = 8} (lit< tt))

pub returns-clause-short : goal.returns-clause-short
returns-clause-short c =
    name-short c.item_names.result.now (c.args.number % 8) _ _ c.as_bytes.ensures.value c.item_names.ensures
    (mod-lt c.args.number {m = 8} (lit< tt))
