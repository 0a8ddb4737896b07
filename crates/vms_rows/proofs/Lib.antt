pub mod RowWords
pub mod RowLines
pub mod Cells
pub mod FilledRows
pub mod Common
