-- Which thresholds the calls give to zones.
use Rattle.std.specs.Prelude.{ℕ, nat_eq, Bool, false, List}
use Rattle.vms_history.specs.Common.{CpuId, ZoneSize}
use Rattle.vms_calls.specs.Ratings.{Choice, ByNormal, ByPressure, Rates, RatesMarked}
use Rattle.vms_calls.specs.declared.choices.Rating.{Rating}
use Rattle.vms_calls.specs.declared.choices.Rating.TheVariants.{Pressure, Normal, Refresh}
use Rattle.vms_core.specs.declared.steps.Facts.{Facts}
use Rattle.vms_core.specs.declared.steps.Step.{Step}
use Rattle.vms_core.specs.Common.{History}

-- the choice of each call
abbrev pub choice_of : Rating → (pressure normal : ZoneSize → ℕ → ℕ → Type 0) → Choice
choice_of Pressure pressure normal = ByPressure pressure normal
choice_of Normal pressure normal = ByNormal normal
choice_of Refresh pressure normal = ByNormal normal

-- a refresh rates every zone, the others spare those without a mark
abbrev pub is_spared : Rating → ℕ → Bool
is_spared Refresh m = false
is_spared _ m = nat_eq m 0

-- how each call rates a zone
abbrev pub rated_by : Rating → (pressure normal : ZoneSize → ℕ → ℕ → Type 0) → Facts → ℕ → List CpuId
    → ℕ → ℕ → ℕ → History → List Step → Type 0
rated_by Pressure pressure normal facts p online = RatesMarked facts p online (ByPressure pressure normal)
rated_by Normal pressure normal facts p online = RatesMarked facts p online (ByNormal normal)
rated_by Refresh pressure normal facts p online = Rates facts p online (ByNormal normal)
