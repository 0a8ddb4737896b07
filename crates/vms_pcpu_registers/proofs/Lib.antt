mod ShownConditions
mod ShownSteps
mod Bounds
