pub mod Lines
pub mod Acts
pub mod Fitting
pub mod Lanes
pub mod Phases
pub mod Common
