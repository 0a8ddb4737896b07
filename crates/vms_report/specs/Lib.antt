pub mod Items
pub mod Totals
pub mod Vmstat
pub mod Zoneinfo
pub mod Counters
pub mod Reports
pub mod Rooms
pub mod Common
