-- The definitions that other crates and this one's proofs cite, passed on from one place. Declares nothing.
pub use Rattle.vms_core.specs.Cells.{HasShape, TellsGroup, acknowledged_at, counters_of, cpu_at, diff_at, eight_zeros}
pub use Rattle.vms_core.specs.Cells.{entry, mark_at, mark_sets_at, places_of, system_at, threshold_at}
pub use Rattle.vms_core.specs.Cells.{threshold_sets_at, value_at, with_diff, with_group_zeroed, with_mark, with_value}
pub use Rattle.vms_core.specs.Cells.{zones_of}
pub use Rattle.vms_core.specs.Changes.{carried_by, differential_after, overstep_of}
pub use Rattle.vms_core.specs.ChangedStates.{with_carried, with_change}
pub use Rattle.vms_core.specs.Steps.{effect, effect_of, own_effect, role}
pub use Rattle.vms_core.specs.Effects.{acknowledged_after, diff_after, mark_after, mark_sets_after, system_after}
pub use Rattle.vms_core.specs.Effects.{value_after}
pub use Rattle.vms_core.specs.Own.{CarriesNothing, carried, carried_of_item, entries_of, found, found_after, has_put}
pub use Rattle.vms_core.specs.Own.{loaded, loaded_after, moved, moved_of_item, took, took_after}
pub use Rattle.vms_core.specs.Totals.{change_of, change_of_item, change_size, differentials, differentials_of_item}
pub use Rattle.vms_core.specs.Totals.{last_after, last_threshold, spent, spent_by, true_total, true_total_of_item}
pub use Rattle.vms_core.specs.Totals.{values_of_item}
pub use Rattle.vms_core.specs.Peaks.{cpu_after, cpu_in, if_present, is_number, opening_peak, peak, peak_after, peak_sum}
pub use Rattle.vms_core.specs.Peaks.{sets, sets_after, threshold_after, threshold_in}
pub use Rattle.vms_core.specs.Bases.{IsBase, IsOpening, next_facts, settled}
pub use Rattle.vms_core.specs.Plain.{IsPlain, IsPlainBase}
pub use Rattle.vms_core.specs.Conditions.{Acknowledges, AddsToPlace, AddsToSystem, FindsGroup, IsControl, Meets, Owns}
pub use Rattle.vms_core.specs.Conditions.{Puts, SetsAbsent, SetsMark, SetsThreshold}
pub use Rattle.vms_core.specs.Pages.{BoundsDifferentials, History, IsComplete, IsLegal, KeepsSystemTotals, KeepsTotals}
pub use Rattle.vms_core.specs.Pages.{MayOwn, carried_by_all, carried_of_item_by_all, pages, state_after}
pub use Rattle.vms_core.specs.Quiet.{quiet_pages}
pub use Rattle.vms_core.specs.NumberChanges.{ChangesNumbers}
pub use Rattle.vms_core.specs.PeakLaws.{AcknowledgesSetNumbers, BoundsByPeaks, BoundsHidden, BoundsLoaded}
pub use Rattle.vms_core.specs.PeakLaws.{BoundsLoadedByPeaks, BoundsThresholds, BoundsUsed, HidesNothingAbsent}
pub use Rattle.vms_core.specs.PeakLaws.{IsAcknowledged, KeepsCovers, KeepsMarksInRange, KeepsPeaksInRange}
pub use Rattle.vms_core.specs.PeakLaws.{KeepsThresholdsInRange, LoadsSetNumbers, OwnsNow, TellsCpus, TellsNumbers}
pub use Rattle.vms_core.specs.PeakLaws.{TellsThresholds}
pub use Rattle.vms_core.specs.MarkNumbers.{MarkStands}
pub use Rattle.vms_core.specs.LoweredThreshold.{acknowledged, acknowledged_early, acknowledged_other, after_take, cpu}
pub use Rattle.vms_core.specs.LoweredThreshold.{found_newest, found_none, found_older, one_zone, state_of_one}
pub use Rattle.vms_core.specs.LoweredThreshold.{threshold_loaded, threshold_lowered, uncovered_mark}
pub use Rattle.vms_core.specs.LoweredThreshold.{uncovered_threshold, zone}
pub use Rattle.vms_core.specs.Taken.{KeepsEmptied, KeepsOfflineTaken, MovesDeadOnce, emptied_after, has_taken}
pub use Rattle.vms_core.specs.Taken.{has_taken_after, is_emptied, taken, taken_by, takings}
pub use Rattle.vms_core.specs.Drift.{BoundsDrift, BoundsExcess, BoundsSystemDrift, carried_of_item_sizes, carried_sizes}
pub use Rattle.vms_core.specs.Drift.{last_thresholds, last_thresholds_of_item, size_below_zero}
pub use Rattle.vms_core.specs.Bounded.{BoundsMoves, KeepsVolumes, StaysBelow, moved_out, moved_out_by, size_limit}
pub use Rattle.vms_core.specs.Knowledge.{ControlKnows, GoesOnWithout, GoesOnWithoutMain, GroupsAreLists, HasTakenAll}
pub use Rattle.vms_core.specs.Knowledge.{KnowsFound, MayExchange, NameEight, NamesEight, OwnerKnows, OwnsOnline}
pub use Rattle.vms_core.specs.Knowledge.{StandsFree, StandsOrTaken}
pub use Rattle.vms_core.specs.Spending.{SumsChanges, SumsSpending, is_owner}
pub use Rattle.vms_core.specs.Laws.{KeepsLaws}
pub use Rattle.vms_core.specs.Ends.{AreWithinVolumes, IsWithinVolumes, grown}
