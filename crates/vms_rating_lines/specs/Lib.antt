pub mod ToldSteps
pub mod Lines
