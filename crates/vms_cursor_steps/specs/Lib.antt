pub mod FoldSteps
pub mod RatingSteps
