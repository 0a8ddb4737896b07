-- The acts that set no thresholds, and so leave the largest thresholds that CPUs may still be using.
use Rattle.vms_world.specs.Common.{Act, Kswapd, Normal, Pressure}
use Rattle.vms_text.specs.declared.acts.Act.TheVariants.{Dead}

-- an act that sets no threshold and no mark, and looks at no acknowledgement: it is none of the control lane's own
abbrev pub SparesPeaks : Act → Type 0
SparesPeaks (Pressure n) = ⊥
SparesPeaks (Normal n) = ⊥
SparesPeaks (Dead c) = ⊥
SparesPeaks (Kswapd n order most) = ⊥
SparesPeaks _ = Unit {0}
