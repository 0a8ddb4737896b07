pub mod Beginning
pub mod ThreadCpus
mod Counters
mod LevelBases
mod PagePasses
pub mod ReadyPasses
pub mod Common
