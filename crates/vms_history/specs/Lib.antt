pub mod Sums
pub mod Events
pub mod Passes
pub mod Legal
pub mod PassSteps
pub mod InRow
pub mod Common
