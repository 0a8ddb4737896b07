pub mod KnownPeaks
pub mod OnlineCpus
pub mod SetCounts
pub mod RatedPlaces
pub mod Control
pub mod PageCalls
pub mod Common
