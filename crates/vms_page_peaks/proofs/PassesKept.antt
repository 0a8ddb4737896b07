-- For other crates too: a step that begins a pass, and one that ends it, leave the peaks as they are.
use Rattle.std.proofs.Common.{◌≢◌, ℕ, ◌∷◌, refl}
use Rattle.vms_history.specs.Common.{Works}
use Rattle.vms_core.specs.declared.steps.Facts.{Facts}
use Rattle.vms_core.specs.declared.steps.Step.{Step}
use Rattle.vms_core.specs.declared.steps.Step.TheVariants.{Join, Split}
use Rattle.vms_core.specs.Common.{History, role}
use Rattle.vms_page_peaks.specs.declared.peaks.PagePeaks.{PagePeaks}
use Rattle.vms_page_peaks.specs.Keeps.{KeepsPeaks}
use Rattle.vms_page_peaks.proofs.KeptSteps.{IsOther, KeepsPeaks-other}

quiet-other : (step : Step) → role step ≢ Works → IsOther step
quiet-other (Split q who) quiet = tt
quiet-other (Join q) quiet = tt
quiet-other _ quiet = absurd (quiet refl)

pub KeepsPeaks-quiet : (facts : Facts) (h : History) (p : ℕ) (step : Step) (r : PagePeaks) → role step ≢ Works
    → KeepsPeaks facts h r → KeepsPeaks facts (record { caller = p; step = step } ∷ h) r
KeepsPeaks-quiet facts h p step r quiet keeps = KeepsPeaks-other facts h p r keeps step (quiet-other step quiet)
