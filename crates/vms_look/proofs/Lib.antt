pub mod PassSteps
pub mod NearValues
pub mod LookSteps
pub mod TestMoments
pub mod TestSteps
pub mod TruePages
pub mod Common
