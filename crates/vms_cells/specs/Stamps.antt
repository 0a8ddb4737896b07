-- Values with the numbers of their writers.
use Rattle.std.specs.Prelude.{ℕ, nat_eq, if◌then◌else◌, Option, Some, None}
use Rattle.vms_cells.specs.declared.stamps.Stamped.{Stamped}

-- the value, if it is of this writer
abbrev pub written_by : {X : Type 0} → ℕ → Stamped X → Option X
written_by writer stamped = if nat_eq stamped.writer writer then Some stamped.value else None
