pub mod Passes
pub mod Burials
pub mod Common
