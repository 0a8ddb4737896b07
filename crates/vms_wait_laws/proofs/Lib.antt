pub mod InsidePhases
pub mod AskingLines
pub mod AskingGroups
