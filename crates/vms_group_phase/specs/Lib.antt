pub mod Listed
pub mod Lines
pub mod Worlds
pub mod Phases
pub mod LaneRuns
pub mod Lanes
pub mod Common
