pub mod Openings
pub mod Keeps
pub mod PassesKept
