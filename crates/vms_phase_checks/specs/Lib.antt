pub mod Slots
pub mod Kept
pub mod Shown
pub mod Walks
pub mod Checks
pub mod Taken
pub mod Common
