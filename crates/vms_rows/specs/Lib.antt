pub mod Rows
pub mod LastWords
pub mod Common
