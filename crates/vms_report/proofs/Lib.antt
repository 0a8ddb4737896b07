pub mod Sums
pub mod Entries
pub mod PresentCpus
pub mod Pieces
pub mod SameReports
pub mod Common
