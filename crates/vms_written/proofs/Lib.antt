pub mod WrittenLanes
pub mod WrittenWays
pub mod SplitSteps
pub mod Beginnings
