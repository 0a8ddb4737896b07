mod Slots
mod KnownSteps
mod Places
mod NotedSteps
mod AmountSteps
mod CarriedBeyond
mod ShownConditions
mod TakenSteps
mod Openings
pub mod PassesKept
