use Rattle.std.proofs.Common.{◌≡◌, ◌≤◌, drop}
use Rattle.std.specs.Prelude.{slice_get}
use Rattle.vms_text.specs.Common.{declared_items}
use Rattle.vms_text.proofs.place_words.declared_item.Given as goal

abbrev pub invariant-loop-item : goal.invariant-loop-item
invariant-loop-item l =
    (l.left ≤ l.index) × (slice_get (declared_items l.node (drop l.item-index l.items)) l.left
    ≡ slice_get (declared_items l.node l.items) l.index)
