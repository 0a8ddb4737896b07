pub mod RaisedPeaks
pub mod AskedRules
pub mod Callings
pub mod WalkSteps
pub mod WalkAlong
pub mod OpenedCalls
pub mod LineActs
pub mod StepsOn
