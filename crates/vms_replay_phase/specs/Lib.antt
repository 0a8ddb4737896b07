pub mod Spending
pub mod CountedVolumes
pub mod Lines
pub mod OpenReplays
pub mod ReplayedPhases
pub mod Common
