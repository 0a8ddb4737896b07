pub mod WrittenPhases
pub mod WrittenRuns
pub mod OpenPhases
pub mod Common
