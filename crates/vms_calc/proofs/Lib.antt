pub mod Sums
pub mod Counted
pub mod FoundZones
pub mod AreaLists
pub mod Common
