pub mod Written
pub mod PhaseParts
pub mod Recording
pub mod Common
