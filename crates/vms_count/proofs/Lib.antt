pub mod PassEvents
pub mod ChangeSteps
pub mod FoldEvents
pub mod TakenGroups
pub mod VisitedPlaces
pub mod ItemAdditions
