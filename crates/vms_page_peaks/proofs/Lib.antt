mod Choices
mod PeakSums
mod PeakChanges
mod RaisedSums
mod Slots
mod KeptSteps
pub mod PassesKept
