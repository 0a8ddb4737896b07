-- The definitions that other crates and this one's proofs cite, passed on from one place. Declares nothing.
pub use Rattle.vms_phase.specs.BegunLanes.{HasAllSteps, HasBegunLanes, HasEndedLanes, IsFresh}
pub use Rattle.vms_phase.specs.LanesMade.{AreMadeByLanes, HasMadeLane, IsClosedWorld}
pub use Rattle.vms_phase.specs.LanePasses.{AreFresh, AreWhole, BeginPasses, EndPasses, HaveBegun, HaveEnded, HaveNumber}
pub use Rattle.vms_phase.specs.LanePasses.{HaveVolumesOf, MayBeginLane}
pub use Rattle.vms_phase.specs.Rooms.{LeaveRoom}
pub use Rattle.vms_phase.specs.Jobs.{AreJobs, HasRunJob, HaveBegunJobs, HaveRunJobs, HaveVolumesFor, IsJob, MayRunJob}
pub use Rattle.vms_phase.specs.JoinedLanes.{AreJoinedLanes, AreTold, HasRunLane, HasVolumesOf, HaveJoinedLanes}
pub use Rattle.vms_phase.specs.JoinedLanes.{HaveRunLanes, IsJoinedLane, seen_by, told_of}
pub use Rattle.vms_phase.specs.KeptVolumes.{AreGivenBack, HasOwn, HaveAll, given_back, given_back_by}
pub use Rattle.vms_phase.specs.SideBySide.{HasClosedTables, HaveFactsOf, histories_of}
