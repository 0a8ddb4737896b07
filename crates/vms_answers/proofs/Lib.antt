pub mod OpenAnswers
pub mod ActAnswers
pub mod KeptAnswers
pub mod ControlAnswers
pub mod MergedLines
mod TakenAnswers
pub mod Common
