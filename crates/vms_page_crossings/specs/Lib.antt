pub mod Crossings
pub mod Common
