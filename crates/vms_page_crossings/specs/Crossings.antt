-- Rules that answer what the kernel's formula gives, and where a boundary line may be crossed.
use Rattle.std.specs.Prelude.{◌≡◌, ℕ, ◌≤◌, Ok}
use Rattle.vms_text.specs.declared.acts.Boundary.{Boundary as BoundaryOf}
use Rattle.vms_text.specs.declared.acts.Line.TheVariants.{Boundary}
use Rattle.vms_own_acts.specs.Common.{IsExactly}
use Rattle.vms_world.specs.Common.{Header, IsLineOf, IsValidSize, Start, State, ZoneSize, allowed_from}
use Rattle.vms_world.specs.Common.{normal_threshold_of}
use Rattle.vms_written_states.specs.PageStarts.{IsPageStart}

-- for valid sizes and 1 to 128 CPUs a rule answers what `calculate_normal_threshold` of mm/vmstat.c gives, and nothing
-- else
abbrev pub GoesByKernel : (ZoneSize → ℕ → ℕ → Type 0) → Type 0
GoesByKernel answers = (size : ZoneSize) (online t : ℕ) → IsValidSize size → 1 ≤ online → online ≤ 128
    → answers size online t → IsExactly normal_threshold_of size online t

-- a boundary line counts after a start of these page counters
abbrev pub MayCrossPages : Header → BoundaryOf → State → Type 0
MayCrossPages header b s = (start : Start) × IsPageStart header start s × IsLineOf header (Boundary b)
    × (allowed_from header start (Boundary b) ≡ Ok (Boundary b))
