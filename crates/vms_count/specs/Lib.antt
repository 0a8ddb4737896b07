pub mod Changing
pub mod Folding
pub mod Common
