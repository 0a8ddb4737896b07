pub mod Beginnings
pub mod Distances
pub mod Levels
pub mod Machines
pub mod ReadyPasses
pub mod Starts
pub mod Common
