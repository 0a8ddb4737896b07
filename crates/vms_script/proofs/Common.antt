-- For other crates too: the lemmas that they cite, passed on from one place. Declares nothing.
pub use Rattle.vms_script.proofs.Known.{judged-known, judged-read, judged_from-allowed}
pub use Rattle.vms_script.proofs.LineVolumes.{IsWithin-allowed, IsWithin-first}
pub use Rattle.vms_script.proofs.PhaseLines.{volume-append}
pub use Rattle.vms_script.proofs.Fitting.{Fits-none, Fits-push, FittingScriptsStayWithin-holds, start_at_end-after}
pub use Rattle.vms_script.proofs.Fitting.{start_at_end-append}
pub use Rattle.vms_script.proofs.Feeding.{ArePhases-gave, IsOpenScript-lane, IsOpenScript-taken, SomeScripter-fed}
pub use Rattle.vms_script.proofs.Feeding.{below-fed, header-with_line, taken-with_line}
pub use Rattle.vms_script.proofs.BodySegments.{SegmentsHaveAllLines-holds, SegmentsMayStand-holds}
pub use Rattle.vms_script.proofs.LaneItems.{IsLaneScript-of}
pub use Rattle.vms_script.proofs.KeptLines.{may_keep}
