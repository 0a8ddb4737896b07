pub mod Rises
pub mod Bounded
pub mod Keeps
pub mod PassesKept
