mod BoundedHistories
mod RisingTimes
mod EnoughRoom
mod ShownConditions
mod ShownSteps
mod Bounds
