-- The steps of a fold tell where they end.
use Rattle.std.proofs.Common.{◌≡◌, ℕ, suc, zero, ◌/◌, Bool, true, false, ℤ, pos, negsuc, List, [], ◌∷◌, ◌++◌, length}
use Rattle.std.proofs.Common.{refl, sym, ap, ◌∙◌, arith, append_assoc}
use Rattle.std.specs.Prelude.{All}
use Rattle.vms_history.specs.Common.{Diffs, CpuId, Shape, item_count, counter_at, group_of, first_of_group}
use Rattle.vms_core.specs.declared.steps.Step.{Step}
use Rattle.vms_core.specs.declared.steps.Step.TheVariants.{SetA}
use Rattle.vms_calls.specs.Common.{TellsFold, without_entries, with_list, read_groups, without_acknowledgement}
use Rattle.vms_calls.specs.Common.{read_place, then_lists, read_places, without_item, without_items, read_items}
use Rattle.vms_calls.specs.Common.{read_fold, FoundPlace, HasGroups, to_place, to_system, group_steps, place_steps}
use Rattle.vms_calls.specs.Common.{system_steps, acknowledges, lists_of, taken_of_item, in_turn}

entries-told : (n : ℕ) (ds : List ℤ) (rest : List Step) → without_entries ds (in_turn to_place n ds ++ rest) ≡ rest
entries-told n [] rest = refl
entries-told n (pos zero ∷ ds) rest = entries-told (suc n) ds rest
entries-told n (pos (suc d) ∷ ds) rest = entries-told (suc n) ds rest
entries-told n (negsuc d ∷ ds) rest = entries-told (suc n) ds rest

groups-told : (c : CpuId) (j : ℕ) (ws : List Diffs) (rest : List Step)
    → read_groups (length ws) (in_turn (group_steps c) j ws ++ rest) ≡ (ws, rest)
groups-told c j [] rest = refl
groups-told c j (w ∷ ws) rest =
    let entries = in_turn to_place (first_of_group j) w.values in
    let more = in_turn (group_steps c) (suc j) ws in
    ap (λ ks. with_list w (read_groups (length ws) (without_entries w.values ks))) (append_assoc entries more rest)
    ∙ ap (λ ks. with_list w (read_groups (length ws) ks)) (entries-told (first_of_group j) w.values (more ++ rest))
    ∙ ap (with_list w) (groups-told c (suc j) ws rest)

-- the same for as many groups as a place has
place-groups : (shape : Shape) (c : CpuId) (j : ℕ) (ws : List Diffs) (rest : List Step)
    → length ws ≡ shape.positions / 8
    → read_groups (shape.positions / 8) (in_turn (group_steps c) j ws ++ rest) ≡ (ws, rest)
place-groups shape c j ws rest one_each =
    ap (λ n. read_groups n (in_turn (group_steps c) j ws ++ rest)) (sym one_each) ∙ groups-told c j ws rest

module _ (shape : Shape) (c : CpuId) where
  place-told : (b : Bool) (g : ℕ) (found : FoundPlace) → HasGroups shape found → (rest : List Step)
      → read_place shape b (place_steps shape b c g found ++ rest) ≡ (found.groups, rest)
  place-told true g found has rest =
      let groups = in_turn (group_steps c) (group_of (counter_at shape g 0)) found.groups in
      let set : List Step = SetA (record { number = g }) found.threshold.number ∷ [] in
      ap (λ ks. without_acknowledgement (read_groups (shape.positions / 8) ks)) (append_assoc groups set rest)
      ∙ ap without_acknowledgement
      (place-groups shape c (group_of (counter_at shape g 0)) found.groups (set ++ rest) has.one_each)
  place-told false g found has rest =
      place-groups shape c (group_of (counter_at shape g 0)) found.groups rest has.one_each

  module _ (is_own : Bool) where
    -- the steps on the places from g on
    abbrev visits : ℕ → List FoundPlace → List Step
    visits g places = in_turn (λ g found. place_steps shape (acknowledges shape is_own g) c g found) g places

    places-told : (g : ℕ) (places : List FoundPlace) → All (HasGroups shape) places → (rest : List Step)
        → read_places shape is_own g (length places) (visits g places ++ rest) ≡ (lists_of places, rest)
    places-told g [] has rest = refl
    places-told g (found ∷ places) has rest =
        let acknowledged = acknowledges shape is_own g in
        let first = place_steps shape acknowledged c g found in
        let more = visits (suc g) places in
        ap (λ ks. then_lists (read_place shape acknowledged ks) (read_places shape is_own (suc g) (length places)))
        (append_assoc first more rest)
        ∙ ap (λ (told : List Diffs × List Step).
        then_lists told (read_places shape is_own (suc g) (length places)))
        (place-told acknowledged g found (has 0 found (omega arith)) (more ++ rest))
        ∙ ap (λ (told : List Diffs × List Step). (found.groups ++ told.0, told.1))
        (places-told (suc g) places (λ n d less. has (suc n) d (omega arith)) rest)

item-told : (i : ℕ) (z : ℤ) (rest : List Step) → without_item z (to_system i z ++ rest) ≡ rest
item-told i (pos zero) rest = refl
item-told i (pos (suc n)) rest = refl
item-told i (negsuc n) rest = refl

items-told : (shape : Shape) (ws : List Diffs) (i n : ℕ) (rest : List Step)
    → without_items shape ws i n (system_steps shape ws i n ++ rest) ≡ rest
items-told shape ws i zero rest = refl
items-told shape ws i (suc n) rest =
    let z = taken_of_item shape i 0 ws in
    let more = system_steps shape ws (suc i) n in
    ap (λ ks. without_items shape ws (suc i) n (without_item z ks)) (append_assoc (to_system i z) more rest)
    ∙ ap (without_items shape ws (suc i) n) (item-told i z (more ++ rest))
    ∙ items-told shape ws (suc i) n rest

pub fold-told : TellsFold
fold-told shape is_own c steps fold rest =
    let places = visits shape c is_own 0 fold.places in
    let items = system_steps shape (lists_of fold.places) 0 (item_count shape) in
    ap (λ ks. read_fold shape is_own (ks ++ rest)) fold.in_order
    ∙ ap (read_fold shape is_own) (append_assoc places items rest)
    ∙ ap (λ n. read_items shape (read_places shape is_own 0 n (places ++ (items ++ rest)))) (sym fold.one_each)
    ∙ ap (read_items shape) (places-told shape c is_own 0 fold.places fold.groups (items ++ rest))
    ∙ ap (λ (ks : List Step). (tt, ks)) (items-told shape (lists_of fold.places) 0 (item_count shape) rest)
