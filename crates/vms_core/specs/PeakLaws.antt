-- What holds of thresholds, peaks, acknowledgements and marks after every legal history.
use Rattle.std.specs.Prelude.{◌≡◌, ℕ, ◌^◌, ◌<◌, ◌≤◌, true, pos, Some, unsigned_abs}
use Rattle.vms_history.specs.Common.{CpuId, Online, Absent, Covers, IsCpu, IsPlace, IsZone, IsCounter, place_of}
use Rattle.vms_history.specs.Common.{most_threshold, own, lives_in, owner_in, size_at, count_below}
use Rattle.vms_core.specs.declared.states.Threshold.{Threshold}
use Rattle.vms_core.specs.declared.steps.Facts.{Facts}
use Rattle.vms_core.specs.Cells.{diff_at, threshold_at, threshold_sets_at, mark_at, cpu_at, acknowledged_at}
use Rattle.vms_core.specs.Own.{loaded}
use Rattle.vms_core.specs.Pages.{History, state_after}
use Rattle.vms_core.specs.Peaks.{sets, threshold_in, peak, cpu_in, peak_sum}
use Rattle.vms_core.specs.Steps.{role}
use Rattle.vms_core.specs.Totals.{last_threshold}

-- the threshold of a CPU in a place by the history is the one that stands in the state
abbrev pub TellsThresholds : Facts → History → Type 0
TellsThresholds facts h = (c g : ℕ) → IsCpu facts.layout c → IsPlace facts.layout g →
    threshold_at (state_after facts h) c g ≡ threshold_in facts c g h

-- so is the number of its sets
abbrev pub TellsNumbers : Facts → History → Type 0
TellsNumbers facts h = (c g : ℕ) → IsCpu facts.layout c → IsPlace facts.layout g →
    threshold_sets_at (state_after facts h) c g ≡ sets c g h

-- and whether a CPU is online, dead or absent
abbrev pub TellsCpus : Facts → History → Type 0
TellsCpus facts h = (c : ℕ) → IsCpu facts.layout c → cpu_at (state_after facts h) c ≡ cpu_in facts c h

-- a threshold is at most 125, and on a CPU that is online at least 1
pub record IsInRange (facts : Facts) (h : History) (c g : ℕ) : Type 0 where
  pub most : threshold_at (state_after facts h) c g ≤ most_threshold
  pub least : cpu_at (state_after facts h) c ≡ Online → 1 ≤ threshold_at (state_after facts h) c g

-- every threshold is in its range
abbrev pub KeepsThresholdsInRange : Facts → History → Type 0
KeepsThresholdsInRange facts h = (c g : ℕ) → IsCpu facts.layout c → IsPlace facts.layout g → IsInRange facts h c g

-- every mark is below 2^43
abbrev pub KeepsMarksInRange : Facts → History → Type 0
KeepsMarksInRange facts h = (g : ℕ) → IsZone facts.layout g → mark_at (state_after facts h) g < 2 ^ 43

-- a differential is at most the threshold that was used on it last, and that at most the peak of the CPU in the place
pub record IsWithinPeak (facts : Facts) (h : History) (c k : ℕ) : Type 0 where
  pub differential : unsigned_abs (diff_at (state_after facts h) c k) ≤ last_threshold facts h c k
  pub last : last_threshold facts h c k ≤ peak facts c (place_of facts.layout k) h

-- every differential is within the peak of its CPU and place
abbrev pub BoundsByPeaks : Facts → History → Type 0
BoundsByPeaks facts h = (c k : ℕ) → IsCpu facts.layout c → IsCounter facts.layout k → IsWithinPeak facts h c k

-- the threshold that stands is at most the peak
abbrev pub BoundsThresholds : Facts → History → Type 0
BoundsThresholds facts h = (c g : ℕ) → IsCpu facts.layout c → IsPlace facts.layout g →
    threshold_at (state_after facts h) c g ≤ peak facts c g h

-- no peak is larger than a threshold may be
abbrev pub KeepsPeaksInRange : Facts → History → Type 0
KeepsPeaksInRange facts h = (c g : ℕ) → IsCpu facts.layout c → IsPlace facts.layout g →
    peak facts c g h ≤ most_threshold

-- the pass lives and owns this CPU
pub record OwnsNow (h : History) (p : ℕ) (c : CpuId) : Type 0 where
  pub lives : lives_in role h p ≡ true
  pub owner : owner_in role h p ≡ Some c

-- what CPU c acknowledged last of zone g is the threshold that was set last
abbrev pub IsAcknowledged : Facts → History → ℕ → ℕ → Type 0
IsAcknowledged facts h c g = acknowledged_at (state_after facts h) c g ≡ Some (sets c g h)

-- then every threshold that was used last in the zone is at most the one that stands
abbrev pub BoundsUsed : Facts → History → Type 0
BoundsUsed facts h = (c k : ℕ) → IsCpu facts.layout c → IsCounter facts.layout k →
    IsZone facts.layout (place_of facts.layout k) → IsAcknowledged facts h c (place_of facts.layout k) →
    last_threshold facts h c k ≤ threshold_at (state_after facts h) c (place_of facts.layout k)

-- and so is what the owner of the CPU last loaded of the zone
abbrev pub BoundsLoaded : Facts → History → Type 0
BoundsLoaded facts h = (p : ℕ) (c : CpuId) (g : ℕ) (told : Threshold) → OwnsNow h p c → IsZone facts.layout g →
    loaded g (own h p) ≡ Some told → IsAcknowledged facts h c.number g →
    told.t ≤ threshold_at (state_after facts h) c.number g

-- in every state what the owner of a CPU last loaded of a place is at most the peak
abbrev pub BoundsLoadedByPeaks : Facts → History → Type 0
BoundsLoadedByPeaks facts h = (p : ℕ) (c : CpuId) (g : ℕ) (told : Threshold) → OwnsNow h p c →
    IsPlace facts.layout g → loaded g (own h p) ≡ Some told → told.t ≤ peak facts c.number g h

-- a load told a threshold with a number of its sets, and with the newest number the threshold that stands
pub record IsSetNumber (facts : Facts) (h : History) (c g : ℕ) (told : Threshold) : Type 0 where
  pub within : told.number ≤ sets c g h
  pub newest : told.number ≡ sets c g h → told.t ≡ threshold_at (state_after facts h) c g

-- this holds of what every owner of a CPU last loaded of a place
abbrev pub LoadsSetNumbers : Facts → History → Type 0
LoadsSetNumbers facts h = (p : ℕ) (c : CpuId) (g : ℕ) (told : Threshold) → OwnsNow h p c → IsPlace facts.layout g →
    loaded g (own h p) ≡ Some told → IsSetNumber facts h c.number g told

-- a number that was acknowledged is a number of sets too
abbrev pub AcknowledgesSetNumbers : Facts → History → Type 0
AcknowledgesSetNumbers facts h = (c g number : ℕ) → IsCpu facts.layout c → IsZone facts.layout g →
    acknowledged_at (state_after facts h) c g ≡ Some number → number ≤ sets c g h

-- every mark covers what the CPUs that are online or dead may hide of its zone
abbrev pub KeepsCovers : Facts → History → Type 0
KeepsCovers facts h = (g : ℕ) → IsZone facts.layout g →
    Covers (size_at facts.sizes g) (mark_at (state_after facts h) g) (peak_sum facts g h)

-- a CPU that is absent hides nothing
abbrev pub HidesNothingAbsent : Facts → History → Type 0
HidesNothingAbsent facts h = (c k : ℕ) → IsCpu facts.layout c → IsCounter facts.layout k →
    cpu_at (state_after facts h) c ≡ Absent → diff_at (state_after facts h) c k ≡ pos 0

-- so what all CPUs hide of a counter is at most the peaks of those that are online or dead
abbrev pub BoundsHidden : Facts → History → Type 0
BoundsHidden facts h = (k : ℕ) → IsCounter facts.layout k →
    count_below (λ c. unsigned_abs (diff_at (state_after facts h) c k)) facts.layout.cpus
    ≤ peak_sum facts (place_of facts.layout k) h
