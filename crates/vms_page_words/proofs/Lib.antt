pub mod Slots
pub mod WordsKept
mod StateCells
mod Bounds
