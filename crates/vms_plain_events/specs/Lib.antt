pub mod StateSteps
pub mod PlainWords
pub mod PlainCalls
pub mod Common
