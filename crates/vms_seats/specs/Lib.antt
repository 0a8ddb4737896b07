pub mod Passes
pub mod Steps
pub mod MainSteps
pub mod Views
pub mod Plays
pub mod Rule
pub mod Seats
pub mod Common
