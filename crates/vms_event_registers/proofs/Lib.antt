mod ShownConditions
mod ShownSteps
mod Bounds
mod Openings
