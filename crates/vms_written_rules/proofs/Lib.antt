pub mod OnlineStates
pub mod OtherRatings
pub mod OtherCalls
pub mod OtherPhases
