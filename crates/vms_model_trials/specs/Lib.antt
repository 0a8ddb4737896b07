pub mod Stories
pub mod Machines
pub mod Moments
