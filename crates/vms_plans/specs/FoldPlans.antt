-- The plan of a fold.
use Rattle.std.specs.Prelude.{ℕ, zero, suc, ◌/◌, Bool, true, false, List, [], ◌∷◌, ◌++◌}
use Rattle.vms_calls.specs.Common.{Diffs, CpuId, Shape, place_count, item_count, counter_at, group_of, first_of_group}
use Rattle.vms_calls.specs.Common.{Step, LoadT, Take, SetA, acknowledges, system_steps, to_place, in_turn}
use Rattle.vms_plans.specs.declared.due_steps.DueStep.TheVariants.{LoadsThreshold, Takes}
use Rattle.vms_plans.specs.Plans.{Plan, ends, refuses, waits, makes, makes_all, and_then}

-- what follows the take of group j: each entry is added to its counter
abbrev pub taken_plan : ℕ → (Diffs → Plan (List Diffs)) → Step → Plan (List Diffs)
taken_plan j more (Take c i w) = makes_all (in_turn to_place (first_of_group j) w.values) (more w)
taken_plan j more _ = refuses

-- n groups of a CPU from group j on, with the lists that were taken before
abbrev pub groups_plan : CpuId → ℕ → ℕ → List Diffs → Plan (List Diffs)
groups_plan c j zero ws = ends ws
groups_plan c j (suc n) ws =
    waits (Takes c (record { number = j })) (taken_plan j (λ w. groups_plan c (suc j) n (ws ++ (w ∷ []))))

module _ (shape : Shape) (is_own : Bool) (c : CpuId) where
  -- the groups of place g
  abbrev pub place_groups : ℕ → List Diffs → Plan (List Diffs)
  place_groups g ws = groups_plan c (group_of (counter_at shape g 0)) (shape.positions / 8) ws

  -- the threshold that was loaded is acknowledged after the groups
  abbrev pub acknowledged_plan : ℕ → List Diffs → Step → Plan (List Diffs)
  acknowledged_plan g ws (LoadT f t a) =
      and_then (place_groups g ws) (λ taken. makes (SetA (record { number = g }) a) (ends taken))
  acknowledged_plan g ws _ = refuses

  abbrev pub place_plan : Bool → ℕ → List Diffs → Plan (List Diffs)
  place_plan true g ws = waits (LoadsThreshold (record { number = g })) (acknowledged_plan g ws)
  place_plan false g ws = place_groups g ws

  -- n places from place g on
  abbrev pub places_plan : ℕ → ℕ → List Diffs → Plan (List Diffs)
  places_plan g zero ws = ends ws
  places_plan g (suc n) ws =
      and_then (place_plan (acknowledges shape is_own g) g ws) (λ taken. places_plan (suc g) n taken)

  -- a fold: the places, and then the items of all that was taken
  abbrev pub fold_plan : Plan (Unit {0})
  fold_plan = and_then (places_plan 0 (place_count shape) [])
      (λ taken. makes_all (system_steps shape taken 0 (item_count shape)) (ends tt))
