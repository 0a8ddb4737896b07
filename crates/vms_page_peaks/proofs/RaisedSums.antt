-- What the sum of a zone has room for, and what it is once a threshold is set.
use Rattle.std.proofs.Common.{◌≡◌, ℕ, ◌+◌, ◌≤◌, ◌*◌, ◌∷◌, ap, arith, get_or, max}
use Rattle.vms_history.specs.Common.{CpuId, IsCpu, IsZone, Online, PlaceId, most_threshold}
use Rattle.vms_cells.specs.Cells.{at}
use Rattle.vms_core.specs.declared.steps.Facts.{Facts}
use Rattle.vms_core.specs.declared.steps.Step.TheVariants.{SetT}
use Rattle.vms_core.specs.Common.{History, IsLegal, cpu_in, if_present, peak, peak_sum}
use Rattle.vms_page_peaks.specs.declared.peaks.PagePeaks.{PagePeaks}
use Rattle.vms_page_peaks.specs.Keeps.{KeepsPeaks}
use Rattle.vms_page_peaks.proofs.PeakChanges.{peak_sum-changed, threshold-changes}
use Rattle.vms_page_peaks.proofs.PeakSums.{hidden, hidden-part, peak_sum-most}

module _ (facts : Facts) (h : History) (r : PagePeaks) (keeps : KeepsPeaks facts h r) where
  -- what a CPU hides is part of the sum
  pub part : (c g : ℕ) → IsCpu facts.layout c → IsZone facts.layout g
      → if_present (cpu_in facts c h) (at r.peaks c g 0) ≤ get_or r.sums g 0
  part c g c_in zone =
      let stood : if_present (cpu_in facts c h) (at r.peaks c g 0) ≡ hidden facts h g c =
      ap (if_present (cpu_in facts c h)) (keeps.peaks c g c_in zone) in
      omega (arith, stood, hidden-part facts h g c c_in, keeps.sums g zone)

  pub small : IsLegal facts h → (g : ℕ) → IsZone facts.layout g → get_or r.sums g 0 ≤ 128 * most_threshold
  small legal g zone = omega (arith, peak_sum-most facts h legal g zone, keeps.sums g zone)

  pub peak_sum-threshold : (p : ℕ) (d : CpuId) (f : PlaceId) (t : ℕ) → IsCpu facts.layout d.number
      → IsZone facts.layout f.number → cpu_in facts d.number h ≡ Online
      → peak_sum facts f.number (record { caller = p; step = SetT d f t } ∷ h) + at r.peaks d.number f.number 0
      ≡ get_or r.sums f.number 0 + max t (at r.peaks d.number f.number 0)
  peak_sum-threshold p d f t d_in zone online =
      rw (keeps.peaks d.number f.number d_in zone, keeps.sums f.number zone)
      (rw online at (peak_sum-changed facts h p (SetT d f t) d.number f.number
      (max t (peak facts d.number f.number h)) (threshold-changes facts h p d f t) d_in))
