-- The definitions that other crates and this one's proofs cite, passed on from one place. Declares nothing.
pub use Rattle.vms_plain_lines.specs.NextLines.{StandsNext}
pub use Rattle.vms_plain_lines.specs.SparedPeaks.{SparesPeaks}
pub use Rattle.vms_plain_lines.specs.PlainStates.{GoesOnAlways, GoesOnIf, GoesOnTelling, PlainStates, StandsInPhase}
pub use Rattle.vms_plain_lines.specs.PlainStates.{in_tables}
pub use Rattle.vms_plain_lines.specs.EventRooms.{HaveRoomForEvents}
pub use Rattle.vms_plain_lines.specs.PageRooms.{HaveRoomForPages}
pub use Rattle.vms_plain_lines.specs.CallLaws.{EventLaws}
pub use Rattle.vms_plain_lines.specs.Rooms.{LeavesRoomForLanes}
pub use Rattle.vms_plain_lines.specs.ControlLines.{GoesOnKnowing}
pub use Rattle.vms_plain_lines.specs.SetLines.{SetByLines}
