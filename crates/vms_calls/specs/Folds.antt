-- The steps of a fold of a CPU.
use Rattle.std.specs.Prelude.{◌≡◌, ℕ, suc, zero, ◌/◌, ◌&&◌, nat_lt, Bool, true, false, ℤ, pos, ◌+ℤ◌, List, [], ◌∷◌}
use Rattle.std.specs.Prelude.{◌++◌, length, All}
use Rattle.vms_history.specs.Common.{Diffs, CpuId, Shape, place_count, item_count, counter_at, group_of, first_of_group}
use Rattle.vms_core.specs.declared.states.Threshold.{Threshold}
use Rattle.vms_core.specs.declared.steps.Step.{Step}
use Rattle.vms_core.specs.declared.steps.Step.TheVariants.{LoadT, Take, AddG, AddS, SetA}
use Rattle.vms_core.specs.Common.{entries_of}
use Rattle.vms_calls.specs.Lists.{in_turn}

-- the addition of an amount to the global value of counter k, and to the system-wide value of item i: none of 0
abbrev pub to_place : ℕ → ℤ → List Step
to_place k (pos zero) = []
to_place k z = AddG (record { number = k }) z ∷ []

abbrev pub to_system : ℕ → ℤ → List Step
to_system i (pos zero) = []
to_system i z = AddS (record { number = i }) z ∷ []

-- a group is taken, and each entry is added to its counter
abbrev pub group_steps : CpuId → ℕ → Diffs → List Step
group_steps c j w = Take c (record { number = j }) w ∷ in_turn to_place (first_of_group j) w.values

-- what was found of a place: the own threshold, where it is acknowledged, and the list of each group
pub record FoundPlace : Type 0 where
  pub threshold : Threshold
  pub groups : List Diffs

-- the steps on place g: where the threshold is acknowledged, it is loaded before the groups are taken and acknowledged
-- after
abbrev pub place_steps : Shape → Bool → CpuId → ℕ → FoundPlace → List Step
place_steps shape true c g found = LoadT (record { number = g }) found.threshold.t found.threshold.number
    ∷ (in_turn (group_steps c) (group_of (counter_at shape g 0)) found.groups
    ++ (SetA (record { number = g }) found.threshold.number ∷ []))
place_steps shape false c g found = in_turn (group_steps c) (group_of (counter_at shape g 0)) found.groups

-- a fold of one's own CPU acknowledges the thresholds of the zones
abbrev pub acknowledges : Shape → Bool → ℕ → Bool
acknowledges shape is_own g = is_own && nat_lt g (length shape.zones)

-- the lists of all places, by group
abbrev pub lists_of : List FoundPlace → List Diffs
lists_of [] = []
lists_of (found ∷ rest) = found.groups ++ lists_of rest

-- what was taken for item i, of the groups from j on
abbrev pub taken_of_item : Shape → ℕ → ℕ → List Diffs → ℤ
taken_of_item shape i j [] = pos 0
taken_of_item shape i j (w ∷ ws) = entries_of shape i j w +ℤ taken_of_item shape i (suc j) ws

-- the additions to the items from i on, n of them
abbrev pub system_steps : Shape → List Diffs → ℕ → ℕ → List Step
system_steps shape ws i zero = []
system_steps shape ws i (suc n) = to_system i (taken_of_item shape i 0 ws) ++ system_steps shape ws (suc i) n

-- a place has a group for each eight positions, and a group eight entries
pub record HasGroups (shape : Shape) (found : FoundPlace) : Type 0 where
  pub one_each : length found.groups ≡ shape.positions / 8
  pub eight_each : All (λ w. length w.values ≡ 8) found.groups

-- a fold of a CPU, by its owner or by another: the places in order, and at the end the items
pub record IsFold (shape : Shape) (is_own : Bool) (c : CpuId) (steps : List Step) : Type 0 where
  pub places : List FoundPlace
  pub one_each : length places ≡ place_count shape
  pub groups : All (HasGroups shape) places
  pub in_order : steps ≡ in_turn (λ g found. place_steps shape (acknowledges shape is_own g) c g found) 0 places
      ++ system_steps shape (lists_of places) 0 (item_count shape)
