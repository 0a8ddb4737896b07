pub mod WrittenCells
pub mod Counts
