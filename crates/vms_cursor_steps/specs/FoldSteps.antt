-- What is next in a fold.
use Rattle.std.specs.Prelude.{◌≡◌, ◌≢◌, ℕ, ◌+◌, ◌-◌, ◌*◌, ◌/◌, ◌<◌, ◌≤◌, [], Option, drop, length, pos, slice_index_or}
use Rattle.vms_calls.specs.Common.{Diffs, Shape, in_turn, item_count, place_count, to_place}
use Rattle.vms_cursors.specs.Cursors.{IsSame}
use Rattle.vms_cursors.specs.Folds.{fold_at, items_left}
use Rattle.vms_cursors.specs.Totals.{total_at}
use Rattle.vms_cursors.specs.declared.folds.Fold.{Fold}
use Rattle.vms_cursors.specs.declared.fold_positions.FoldPosition.TheVariants.{Groups}
use Rattle.vms_cursors.specs.declared.taken.Taken.{Taken}

-- this entry of a list is the first that isn't 0 from one on
pub record IsNextEntry (list : Diffs) (from n : ℕ) : Type 0 where
  pub same : (k : ℕ) → in_turn to_place (k + from) (drop from list.values)
      ≡ in_turn to_place (k + n) (drop n list.values)
  pub less : n < 8
  pub whole : length list.values ≡ 8
  pub some : slice_index_or list.values n (pos 0) ≢ pos 0

-- this item is the first from one on for which something was taken
pub record IsNextItem (shape : Shape) (taken : Taken) (from i : ℕ) : Type 0 where
  pub same : items_left shape taken [] from (item_count shape - from)
      ≡ items_left shape taken [] i (item_count shape - i)
  pub less : i < item_count shape
  pub some : total_at taken.totals i ≢ pos 0

-- where the groups of one place are being taken, the next is of this place
pub record IsNextGroup (shape : Shape) (fold : Fold) (taken : Taken) (place : ℕ) (number : Option ℕ) (of : ℕ) : Type 0
  where
    pub same : IsSame (fold_at shape fold (Groups taken place number)) (fold_at shape fold (Groups taken of number))
    pub within : of < place_count shape
    pub least : shape.positions / 8 * of ≤ taken.groups
    pub more : taken.groups < shape.positions / 8 * (of + 1)
