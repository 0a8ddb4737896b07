pub mod Waits
pub mod Orders
pub mod Common
