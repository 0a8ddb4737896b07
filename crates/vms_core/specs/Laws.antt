-- What holds after every legal history of the page counters.
use Rattle.vms_core.specs.declared.steps.Facts.{Facts}
use Rattle.vms_core.specs.Bounded.{KeepsVolumes, BoundsMoves, StaysBelow}
use Rattle.vms_core.specs.Cells.{HasShape}
use Rattle.vms_core.specs.Drift.{BoundsDrift, BoundsSystemDrift, BoundsExcess}
use Rattle.vms_core.specs.Knowledge.{NameEight, GroupsAreLists, OwnsOnline, KnowsFound}
use Rattle.vms_core.specs.Pages.{History, state_after, KeepsTotals, KeepsSystemTotals, BoundsDifferentials}
use Rattle.vms_core.specs.PeakLaws.{TellsThresholds, TellsNumbers, TellsCpus, KeepsThresholdsInRange, KeepsMarksInRange}
use Rattle.vms_core.specs.PeakLaws.{BoundsByPeaks, BoundsThresholds, KeepsPeaksInRange, BoundsUsed, BoundsLoaded}
use Rattle.vms_core.specs.PeakLaws.{BoundsLoadedByPeaks, LoadsSetNumbers, AcknowledgesSetNumbers, KeepsCovers}
use Rattle.vms_core.specs.PeakLaws.{HidesNothingAbsent, BoundsHidden}
use Rattle.vms_core.specs.Spending.{SumsSpending, SumsChanges}
use Rattle.vms_core.specs.Taken.{KeepsEmptied, KeepsOfflineTaken, MovesDeadOnce}

-- the laws of the page counters
pub record KeepsLaws (facts : Facts) (h : History) : Type 0 where
  -- the lists of the state keep the lengths that the layout gives them
  pub shape : HasShape facts.layout (state_after facts h)
  -- global value, differentials and carried amounts of a counter add up to its true total
  pub totals : KeepsTotals facts h
  -- so do system-wide value, differentials and carried amounts of an item
  pub system_totals : KeepsSystemTotals facts h
  -- the global value of a counter is off by at most the thresholds used last on it and what is carried for it
  pub drift : BoundsDrift facts h
  -- the system-wide value of an item is off by at most those of its counters and what is carried for the item
  pub system_drift : BoundsSystemDrift facts h
  -- global value and differentials exceed the true total by at most the negative amounts carried
  pub excess : BoundsExcess facts h
  -- a differential is at most the threshold that was used on it last
  pub differentials : BoundsDifferentials facts h
  -- and that is at most the peak of its CPU and place
  pub by_peaks : BoundsByPeaks facts h
  -- the threshold that stands is at most the peak
  pub thresholds_by_peaks : BoundsThresholds facts h
  -- where the newest threshold of a zone is acknowledged, none used last there is larger
  pub used : BoundsUsed facts h
  -- nor is what the owner of the CPU loaded last
  pub loaded : BoundsLoaded facts h
  -- what the owner of a CPU loaded last is at most the peak
  pub loaded_by_peaks : BoundsLoadedByPeaks facts h
  -- a load told a threshold with a number of its sets, and with the newest number the threshold that stands
  pub loaded_numbers : LoadsSetNumbers facts h
  -- a number that was acknowledged is a number of sets
  pub acknowledged_numbers : AcknowledgesSetNumbers facts h
  -- thresholds are at most 125, and at least 1 on a CPU that is online
  pub thresholds : KeepsThresholdsInRange facts h
  -- peaks are at most 125
  pub peaks : KeepsPeaksInRange facts h
  -- marks are below 2^43
  pub marks : KeepsMarksInRange facts h
  -- the history tells the thresholds that stand
  pub told_thresholds : TellsThresholds facts h
  -- how often they were set
  pub told_numbers : TellsNumbers facts h
  -- and the states of CPUs
  pub told_cpus : TellsCpus facts h
  -- every mark covers the peaks of its zone
  pub covers : KeepsCovers facts h
  -- what all CPUs hide of a counter is at most the peaks of its place
  pub hidden : BoundsHidden facts h
  -- a CPU that is absent hides nothing
  pub absent : HidesNothingAbsent facts h
  -- a group that was taken or missed stays zero until its owner's next put
  pub emptied : KeepsEmptied facts h
  -- a group of a CPU that isn't online stays zero once it was taken
  pub offline_taken : KeepsOfflineTaken facts h
  -- what a CPU hid that was dead in the base is taken once
  pub dead : MovesDeadOnce facts h
  -- the CPU of a pass is online
  pub owners : OwnsOnline facts h
  -- the list that the owner of a CPU found last stands, or its group was taken
  pub found : KnowsFound facts h
  -- every list that a step names has eight entries
  pub lists : NameEight h
  -- the differentials of a group stand as a list of eight bytes
  pub groups : GroupsAreLists facts h
  -- no CPU changes a counter by more than 2^48
  pub volumes : KeepsVolumes h
  -- a CPU spends what the own events of its owners change
  pub spending : SumsSpending h
  -- all CPUs together spend what all steps change
  pub changes : SumsChanges facts h
  -- what left a differential is bounded by what was spent
  pub moves : BoundsMoves facts h
  -- every number other than a mark stays below 2^62
  pub small : StaysBelow facts h
