-- What the registers of the page counters show of a CPU's peak.
use Rattle.std.proofs.Common.{◌≡◌, ◌≢◌, ℕ, Some, refl}
use Rattle.vms_base.specs.declared.kinds.CpuState.TheVariants.{Dead, Online}
use Rattle.vms_walks.specs.Peaks.{peak_told}
use Rattle.vms_world.specs.Common.{Absent, CpuState}

pub told-present : (x : CpuState) (n : ℕ) → x ≢ Absent → Some n ≡ peak_told x n
told-present Absent n present = absurd (present refl)
told-present Online n present = refl
told-present Dead n present = refl
