-- A change of a counter under a threshold (`mod_zone_state` and `mod_node_state` of mm/vmstat.c).
use Rattle.std.specs.Prelude.{ℕ, ◌/◌, nat_le, unsigned_abs, ℤ, pos, neg_ℤ, ◌+ℤ◌, if◌then◌else◌}
use Rattle.vms_history.specs.Common.{Mode, Mod, Inc, Dec}

-- how far a change that passes the threshold goes beyond what it has to
abbrev pub overstep_of : Mode → ℕ → ℤ
overstep_of Mod t = pos 0
overstep_of Inc t = pos (t / 2)
overstep_of Dec t = neg_ℤ (pos (t / 2))

-- the differential that the change leaves, from the one that it found: the sum where the threshold allows it, and
-- otherwise the overstep with its sign turned
abbrev pub differential_after : Mode → ℕ → ℤ → ℤ → ℤ
differential_after how t found delta =
    if nat_le (unsigned_abs (found +ℤ delta)) t then found +ℤ delta else neg_ℤ (overstep_of how t)

-- what the change carries to the global values: nothing where the threshold allows the sum, and otherwise the sum and
-- the overstep
abbrev pub carried_by : Mode → ℕ → ℤ → ℤ → ℤ
carried_by how t found delta =
    if nat_le (unsigned_abs (found +ℤ delta)) t then pos 0 else (found +ℤ delta) +ℤ overstep_of how t
