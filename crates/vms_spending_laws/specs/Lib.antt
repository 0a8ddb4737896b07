pub mod Spending
pub mod LeftWorlds
pub mod Common
