pub mod BlockSearches
pub mod OrderTests
pub mod ZoneTests
pub mod TurnSteps
pub mod TrueBalances
pub mod TurnRules
pub mod BlockCounts
