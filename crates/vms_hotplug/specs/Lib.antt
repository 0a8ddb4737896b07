pub mod Folding
pub mod Settings
pub mod Common
