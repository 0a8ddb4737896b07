pub mod Words
pub mod Arguments
pub mod Forms
pub mod Lines
pub mod WideSteps
pub mod Spelling
pub mod Laws
