pub mod Ways
pub mod Lines
pub mod Calls
pub mod Folds
