pub mod Nearness
pub mod CpuCounts
pub mod ItemCounters
pub mod PresentCpus
pub mod NewestThresholds
pub mod RunningSums
pub mod SmallSteps
pub mod ChangeTransit
pub mod FoldTransit
pub mod FoldItems
pub mod CallTransit
pub mod RatedMarks
mod SparedZones
mod OnlineNames
mod ZoneVisits
pub mod LeftMarks
