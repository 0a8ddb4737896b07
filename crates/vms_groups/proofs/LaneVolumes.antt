-- What CPUs have spent on groups, with one line more.
use Rattle.std.proofs.Common.{◌≡◌, ℕ, ◌+◌, nat_eq, Bool, true, false, List, [], ◌∷◌, ◌++◌, arith, if◌then◌else◌}
use Rattle.vms_group_core.specs.Common.{group_spent}
use Rattle.vms_group_phase.specs.declared.items.GroupItem.{GroupItem}
use Rattle.vms_group_phase.specs.Common.{lane_lines, spent_by_lines}

-- the lines of a lane with one line more
pub spent-push : (c g : ℕ) (items : List GroupItem) (item : GroupItem)
    → spent_by_lines (lane_lines c (items ++ item ∷ [])) g
    ≡ spent_by_lines (lane_lines c items) g + (if nat_eq item.cpu.number c then group_spent item.call g else 0)
spent-push c g [] item = by (nat_eq item.cpu.number c)
  where
    by : (mine : Bool) → spent_by_lines (if mine then item ∷ [] else []) g
        ≡ 0 + (if mine then group_spent item.call g else 0)
    by true = omega arith
    by false = omega arith
spent-push c g (first ∷ items) item = by (nat_eq first.cpu.number c) (spent-push c g items item)
  where
    by : (mine : Bool) → spent_by_lines (lane_lines c (items ++ item ∷ [])) g
        ≡ spent_by_lines (lane_lines c items) g + (if nat_eq item.cpu.number c then group_spent item.call g else 0)
        → spent_by_lines (if mine then first ∷ lane_lines c (items ++ item ∷ [])
        else lane_lines c (items ++ item ∷ [])) g
        ≡ spent_by_lines (if mine then first ∷ lane_lines c items else lane_lines c items) g
        + (if nat_eq item.cpu.number c then group_spent item.call g else 0)
    by true same = omega (arith, same)
    by false same = same
