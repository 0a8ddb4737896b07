mod PlacedAnswers
mod LaneLines
pub mod LanesMade
pub mod BegunLanes
pub mod EndedLanes
pub mod LaneRooms
pub mod FreshCpus
pub mod JobLists
pub mod ReadyJobs
pub mod ControlJobs
pub mod JoinedLanes
pub mod JoinedPhases
pub mod SideBySide
pub mod FirstVolumes
mod KeptVolumes
pub mod MainLanes
