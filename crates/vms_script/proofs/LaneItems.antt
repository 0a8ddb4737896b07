-- For other crates too: the lines of one lane of a phase.
use Rattle.std.proofs.Common.{◌≡◌, ◌+◌, ◌<◌, List, [], ◌∷◌, length, map, refl, sym, ap, subst, ◌∙◌, arith}
use Rattle.std.proofs.lemmas.List.{length-map}
use Rattle.std.proofs.lemmas.List.Sums.{length-filter}
use Rattle.std.specs.List.{count_by, filter}
use Rattle.std.specs.List.Sorted.{IsStrictlyIncreasing}
use Rattle.std.proofs.lemmas.List.Kept.{AllPairs-filter}
use Rattle.vms_base.proofs.Common.{increasing-from_steps, rises}
use Rattle.vms_text.proofs.Common.{length-filter-le}
use Rattle.vms_text.specs.declared.acts.Item.{Item}
use Rattle.vms_text.specs.declared.acts.Lane.{Lane}
use Rattle.vms_script.specs.declared.lane_scripts.LaneItem.{LaneItem}
use Rattle.vms_script.specs.Common.{IsLaneScript, IsPhaseScript, is_lane, lane_item, lane_items}

-- a line has the same number where its lane is known
numbers-lane_item : (items : List Item)
    → map (λ (item : LaneItem). item.number) (map lane_item items) ≡ map (λ (item : Item). item.number) items
numbers-lane_item [] = refl
numbers-lane_item (item ∷ items) = ap (λ numbers. item.number ∷ numbers) (numbers-lane_item items)

-- they make a script
pub IsLaneScript-of : (lane : Lane) (items : List Item) → IsPhaseScript items → IsLaneScript (lane_items lane items)
IsLaneScript-of lane items is =
    let kept = filter (λ (item : Item). is_lane lane item.lane) items in
    let apart = AllPairs-filter (λ (a b : Item). a.number < b.number) (λ (item : Item). is_lane lane item.lane) items
    (λ i j d before within. rises (λ (item : Item). item.number) items is.ascend i j d before within) in
    record {
      few = omega (
        arith,
        is.few,
        length-map kept lane_item,
        length-filter-le (λ (item : Item). is_lane lane item.lane) items,
      );
      ascend = subst IsStrictlyIncreasing (sym (numbers-lane_item kept))
          (increasing-from_steps (λ (item : Item). item.number) kept
          (λ k d within. apart k (k + 1) d (omega arith) (omega (arith, within))));
    }

-- how many they are
pub length-lane_items : (lane : Lane) (items : List Item)
    → length (lane_items lane items) ≡ count_by (λ (item : Item). is_lane lane item.lane) items
length-lane_items lane items =
    length-map (filter (λ (item : Item). is_lane lane item.lane) items) lane_item
    ∙ length-filter (λ (item : Item). is_lane lane item.lane) items
