pub mod QuietRoles
pub mod HeldPasses
pub mod HeldEvents
mod Judged
