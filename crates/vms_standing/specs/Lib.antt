pub mod Replying
pub mod Pairs
pub mod Works
pub mod Common
