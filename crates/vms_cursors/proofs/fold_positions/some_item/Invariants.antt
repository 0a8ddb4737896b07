use Rattle.std.proofs.Common.{◌≡◌, ◌-◌, []}
use Rattle.vms_calls.specs.Common.{item_count}
use Rattle.vms_cursors.specs.Folds.{items_left}
use Rattle.vms_cursors.proofs.fold_positions.some_item.Given as goal

-- nothing was taken for the items so far
abbrev pub invariant-loop-i : goal.invariant-loop-i
invariant-loop-i l = items_left l.layout l.taken [] l.from (item_count l.layout - l.from)
    ≡ items_left l.layout l.taken [] l.i (item_count l.layout - l.i)
