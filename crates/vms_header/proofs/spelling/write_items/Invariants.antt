use Rattle.std.proofs.Common.{◌≡◌, ◌++◌, flat_map, map, take}
use Rattle.vms_header.specs.Common.{item_words}
use Rattle.vms_text.specs.Common.{sentence}
use Rattle.vms_header.proofs.spelling.write_items.Given as goal

abbrev pub invariant-loop-item : goal.invariant-loop-item
invariant-loop-item l =
    l.out.items ≡ l.initial.out.items ++ flat_map sentence (map item_words (take l.item-index l.items))
