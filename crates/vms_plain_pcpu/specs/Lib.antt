pub mod StateSteps
pub mod FreeLocks
pub mod Numbers
pub mod Answers
pub mod PlainCalls
pub mod Common
