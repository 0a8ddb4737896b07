-- A lane without a line has none to make.
use Rattle.std.proofs.Common.{◌≡◌, ◌||◌, Bool, true, false, cond, List, [], ◌∷◌, map, filter, refl, sym, ◌∙◌}
use Rattle.vms_world.specs.Common.{Header, CpuId, IsCpu, is_lane, lane_item, lane_items, Item, Lane, Cpu, has_line}
use Rattle.vms_world.specs.Common.{is_among, lanes_of}
use Rattle.vms_file_order.proofs.Common.{among-lanes, is_lane-sym}

-- a lane without a line has none
pub lane_items-none : (lane : Lane) (items : List Item) → has_line lane items ≡ false → lane_items lane items ≡ []
lane_items-none lane [] none = refl
lane_items-none lane (item ∷ items) none =
    by (is_lane lane item.lane) (is_lane item.lane lane) (is_lane-sym lane item.lane) none (lane_items-none lane items)
  where
    of_lane : List Item
    of_lane = filter (λ (i : Item). is_lane lane i.lane) items

    by : (a b : Bool) → a ≡ b → (b || has_line lane items) ≡ false
        → (has_line lane items ≡ false → map lane_item of_lane ≡ [])
        → map lane_item (cond a (item ∷ of_lane) of_lane) ≡ []
    by true true same is later = absurd cc
    by false false same is later = later is
    by true false same is later = absurd cc
    by false true same is later = absurd cc

-- nor has a CPU that isn't among the lanes with lines
pub lane_items-apart : (header : Header) (items : List Item) (c : CpuId) → IsCpu header.layout c.number
    → is_among (Cpu c) (lanes_of header.layout items) ≡ false → lane_items (Cpu c) items ≡ []
lane_items-apart header items c known apart = lane_items-none (Cpu c) items (by (has_line (Cpu c) items) refl)
  where
    by : (b : Bool) → has_line (Cpu c) items ≡ b → has_line (Cpu c) items ≡ false
    by true has =
        let both : true ≡ false = sym (among-lanes header items (Cpu c) known has) ∙ apart in absurd cc
    by false is = is
