pub mod LinedLanes
pub mod PassOrder
pub mod PhaseEnds
pub mod Crossings
