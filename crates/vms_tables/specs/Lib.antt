pub mod Tables
pub mod Passes
pub mod Common
