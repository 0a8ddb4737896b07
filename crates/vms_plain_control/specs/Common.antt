-- The definitions that other crates and this one's proofs cite, passed on from one place. Declares nothing.
pub use Rattle.vms_plain_control.specs.KnownPeaks.{HasAllPeaks, KnowsPeaks, KnowsState, peak_in, with_peak}
pub use Rattle.vms_plain_control.specs.OnlineCpus.{hidden_by, is_acknowledged, mark_by, marked, online_in}
pub use Rattle.vms_plain_control.specs.OnlineCpus.{peaks_lowered, peaks_raised, rated, with_place_thresholds}
pub use Rattle.vms_plain_control.specs.SetCounts.{SetAtMost, SetsEachAtMost, SetsOnce, SetsOnly}
pub use Rattle.vms_plain_control.specs.RatedPlaces.{GetsMark, GetsThreshold, KeepsMark, KeepsThresholds, KeepsZone}
pub use Rattle.vms_plain_control.specs.RatedPlaces.{RatesPlaces, RatesZone, RatesZoneOn, RefreshesPlaces, SparesZone}
pub use Rattle.vms_plain_control.specs.RatedPlaces.{VisitsZone, mark_given, peak_found, peak_given}
pub use Rattle.vms_plain_control.specs.Control.{ControlCall, ControlMakes, Controls, MakesPart, MakesUnladenCall}
