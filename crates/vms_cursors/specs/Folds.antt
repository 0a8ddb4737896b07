-- The plan of what is left of a fold at each position.
use Rattle.std.specs.Prelude.{ℕ, zero, suc, ◌+◌, ◌-◌, ◌*◌, ◌/◌, ◌<◌, ◌≤◌, List, [], ◌++◌, drop, Option, Some, None, ◌≡◌}
use Rattle.std.specs.Prelude.{◌+ℤ◌}
use Rattle.vms_calls.specs.Common.{Diffs, SetA, Shape, Step, first_of_group, in_turn, item_count, place_count}
use Rattle.vms_calls.specs.Common.{taken_of_item, to_place, to_system}
use Rattle.vms_plans.specs.Common.{Plan, and_then, ends, groups_plan, makes, makes_all, places_plan}
use Rattle.vms_cursors.specs.Totals.{total_at}
use Rattle.vms_cursors.specs.declared.folds.Fold.{Fold}
use Rattle.vms_cursors.specs.declared.taken.Taken.{Taken}
use Rattle.vms_cursors.specs.declared.fold_positions.FoldPosition.{FoldPosition}
use Rattle.vms_cursors.specs.declared.fold_positions.FoldPosition.TheVariants.{Places, Groups, Entries, Items}

module _ (shape : Shape) (taken : Taken) where
  -- the additions to n items from item i on, where after what was taken before these lists are taken from the groups
  -- that follow
  abbrev pub items_left : List Diffs → (i n : ℕ) → List Step
  items_left ws i zero = []
  items_left ws i (suc n) = to_system i (total_at taken.totals i +ℤ taken_of_item shape i taken.groups ws)
      ++ items_left ws (suc i) n

  -- from item i on
  abbrev pub items_from : List Diffs → ℕ → Plan (Unit {0})
  items_from ws i = makes_all (items_left ws i (item_count shape - i)) (ends tt)

  module _ (fold : Fold) where
    -- from place g on, with these lists taken after what was taken before
    abbrev pub places_from : ℕ → List Diffs → Plan (Unit {0})
    places_from g ws =
        and_then (places_plan shape fold.is_own fold.cpu g (place_count shape - g) ws) (λ all. items_from all 0)

    -- the end of place g: the threshold with this number is acknowledged, if one was loaded
    abbrev pub place_end : ℕ → Option ℕ → List Diffs → Plan (Unit {0})
    place_end g (Some a) ws = makes (SetA (record { number = g }) a) (places_from (g + 1) ws)
    place_end g None ws = places_from (g + 1) ws

    -- from the next group of place g on
    abbrev pub groups_from : ℕ → Option ℕ → Plan (Unit {0})
    groups_from g number = and_then (groups_plan fold.cpu taken.groups
        (shape.positions / 8 * (g + 1) - taken.groups) [])
        (place_end g number)

abbrev pub fold_at : Shape → Fold → FoldPosition → Plan (Unit {0})
fold_at shape fold (Places taken g) = places_from shape taken fold g []
fold_at shape fold (Groups taken g number) = groups_from shape taken fold g number
fold_at shape fold (Entries taken g number w n) =
    makes_all (in_turn to_place (first_of_group (taken.groups - 1) + n) (drop n w.values))
    (groups_from shape taken fold g number)
fold_at shape fold (Items taken i) = items_from shape taken [] i

-- the place is one of the layout, and so many groups were taken as it and those before it have
abbrev pub IsFoldWithin : Shape → FoldPosition → Type 0
IsFoldWithin shape (Places taken g) = (g ≤ place_count shape) × (taken.groups ≡ shape.positions / 8 * g)
IsFoldWithin shape (Groups taken g number) = (g < place_count shape)
    × (shape.positions / 8 * g ≤ taken.groups) × (taken.groups ≤ shape.positions / 8 * (g + 1))
IsFoldWithin shape (Entries taken g number w n) = (g < place_count shape)
    × (shape.positions / 8 * g < taken.groups) × (taken.groups ≤ shape.positions / 8 * (g + 1))
IsFoldWithin shape (Items taken i) = Unit {0}
