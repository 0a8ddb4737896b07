pub mod Slots
pub mod Shows
