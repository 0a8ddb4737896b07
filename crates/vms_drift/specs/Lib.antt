pub mod Nearness
pub mod Moments
pub mod PresentCpus
pub mod NewestThresholds
pub mod Transit
pub mod RatedMarks
pub mod LeftMarks
