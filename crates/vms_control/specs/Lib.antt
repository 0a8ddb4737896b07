pub mod Online
pub mod SetCounts
pub mod Unladen
pub mod SettledMarks
pub mod Common
