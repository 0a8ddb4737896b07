pub mod Answers
pub mod PhaseAnswers
pub mod OpenAnswers
pub mod ToldAnswers
pub mod AnswerLines
pub mod Merging
pub mod Told
pub mod Common
