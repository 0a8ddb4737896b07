pub mod PlainSums
pub mod Moves
pub mod WayAnswers
pub mod ReportedSums
pub mod Common
