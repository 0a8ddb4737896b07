-- The largest thresholds that CPUs may still be using, as the control pass keeps them.
use Rattle.std.specs.Prelude.{◌≡◌, ℕ, ◌*◌, List, length, slice_index_or, slice_set}
use Rattle.vms_calls.specs.Common.{Shape, IsCpu, IsPlace, IsZone, cell, State, Facts, HasShape, threshold_at}
use Rattle.vms_calls.specs.Common.{threshold_sets_at, cpu_at, History, sets, threshold_in, peak, cpu_in}

-- the number of a CPU and a zone, in a list by CPU and then zone
abbrev pub peak_in : Shape → List ℕ → ℕ → ℕ → ℕ
peak_in shape peaks c g = slice_index_or peaks (cell (length shape.zones) c g) 0

abbrev pub with_peak : Shape → ℕ → ℕ → ℕ → List ℕ → List ℕ
with_peak shape c g t peaks = slice_set peaks (cell (length shape.zones) c g) t

-- the list has a number for each CPU and zone
abbrev pub HasAllPeaks : Shape → List ℕ → Type 0
HasAllPeaks shape peaks = length peaks ≡ shape.cpus * length shape.zones

-- the numbers are the peaks after a history
pub record KnowsPeaks (facts : Facts) (h : History) (peaks : List ℕ) : Type 0 where
  pub full : HasAllPeaks facts.layout peaks
  pub each : (c g : ℕ) → IsCpu facts.layout c → IsZone facts.layout g →
      peak_in facts.layout peaks c g ≡ peak facts c g h

-- a history tells these peaks, and the thresholds, numbers of sets and CPU states of this state
pub record KnowsState (facts : Facts) (h : History) (s : State) (peaks : List ℕ) : Type 0 where
  pub shaped : HasShape facts.layout s
  pub known : KnowsPeaks facts h peaks
  pub thresholds : (c g : ℕ) → IsCpu facts.layout c → IsPlace facts.layout g →
      threshold_at s c g ≡ threshold_in facts c g h
  pub numbers : (c g : ℕ) → IsCpu facts.layout c → IsPlace facts.layout g →
      threshold_sets_at s c g ≡ sets c g h
  pub cpus : (c : ℕ) → IsCpu facts.layout c → cpu_at s c ≡ cpu_in facts c h
