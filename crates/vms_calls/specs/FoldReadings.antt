-- What the steps of a fold tell of where they end.
use Rattle.std.specs.Prelude.{◌≡◌, ℕ, zero, suc, ◌/◌, Bool, true, ℤ, pos, negsuc, List, [], ◌∷◌, ◌++◌}
use Rattle.vms_history.specs.Common.{Diffs, CpuId, Shape, place_count, item_count}
use Rattle.vms_core.specs.declared.steps.Step.{Step}
use Rattle.vms_core.specs.declared.steps.Step.TheVariants.{LoadT, Take, AddG, AddS, SetA}
use Rattle.vms_calls.specs.Folds.{IsFold, acknowledges, taken_of_item}

-- the steps without the first one, where that adds to a global value; and the same of a system-wide value
abbrev pub without_place : List Step → List Step
without_place (AddG k a ∷ rest) = rest
without_place steps = steps

abbrev pub without_system : List Step → List Step
without_system (AddS i a ∷ rest) = rest
without_system steps = steps

-- the steps without the additions of these entries to their counters: there is none for 0
abbrev pub without_entries : List ℤ → List Step → List Step
without_entries [] steps = steps
without_entries (pos zero ∷ zs) steps = without_entries zs steps
without_entries (pos (suc n) ∷ zs) steps = without_entries zs (without_place steps)
without_entries (negsuc n ∷ zs) steps = without_entries zs (without_place steps)

-- the list that a take told, before those of later takes
abbrev pub with_list : Diffs → List Diffs × List Step → List Diffs × List Step
with_list w (ws, rest) = (w ∷ ws, rest)

-- the lists of n groups, each of which is taken and added to its counters
abbrev pub read_groups : ℕ → List Step → List Diffs × List Step
read_groups zero steps = ([], steps)
read_groups (suc n) (Take c j w ∷ rest) = with_list w (read_groups n (without_entries w.values rest))
read_groups (suc n) steps = ([], steps)

-- the lists of a place: where its threshold is acknowledged, it is loaded before the groups
abbrev pub without_acknowledgement : List Diffs × List Step → List Diffs × List Step
without_acknowledgement (ws, SetA g a ∷ rest) = (ws, rest)
without_acknowledgement found = found

abbrev pub read_place : Shape → Bool → List Step → List Diffs × List Step
read_place shape true (LoadT g t a ∷ rest) = without_acknowledgement (read_groups (shape.positions / 8) rest)
read_place shape _ steps = read_groups (shape.positions / 8) steps

-- the lists of n places from place g on
abbrev pub then_lists : List Diffs × List Step → (List Step → List Diffs × List Step) → List Diffs × List Step
then_lists (ws, rest) more = let later : List Diffs × List Step = more rest in (ws ++ later.0, later.1)

abbrev pub read_places : Shape → Bool → ℕ → ℕ → List Step → List Diffs × List Step
read_places shape is_own g zero steps = ([], steps)
read_places shape is_own g (suc n) steps =
    then_lists (read_place shape (acknowledges shape is_own g) steps) (read_places shape is_own (suc g) n)

-- the steps without an addition of this amount to an item: there is none of 0
abbrev pub without_item : ℤ → List Step → List Step
without_item (pos zero) steps = steps
without_item (pos (suc n)) steps = without_system steps
without_item (negsuc n) steps = without_system steps

-- the steps without the additions to the n items from item i on, of what was taken for them
abbrev pub without_items : Shape → List Diffs → ℕ → ℕ → List Step → List Step
without_items shape ws i zero steps = steps
without_items shape ws i (suc n) steps =
    without_items shape ws (suc i) n (without_item (taken_of_item shape i 0 ws) steps)

-- a fold: the places, and then the items
abbrev pub read_items : Shape → List Diffs × List Step → Unit {0} × List Step
read_items shape (ws, rest) = (tt, without_items shape ws 0 (item_count shape) rest)

abbrev pub read_fold : Shape → Bool → List Step → Unit {0} × List Step
read_fold shape is_own steps = read_items shape (read_places shape is_own 0 (place_count shape) steps)

-- the steps of a fold tell where they end, whatever follows them
abbrev pub TellsFold : Type 0
TellsFold = (shape : Shape) (is_own : Bool) (c : CpuId) (steps : List Step) → IsFold shape is_own c steps
    → (rest : List Step) → read_fold shape is_own (steps ++ rest) ≡ (tt, rest)
