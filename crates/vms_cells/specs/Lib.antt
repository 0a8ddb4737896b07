pub mod Cells
pub mod Tallies
pub mod Stamps
