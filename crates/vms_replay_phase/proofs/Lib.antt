pub mod SpentVolumes
pub mod Countings
pub mod MadeLines
pub mod MadeCalls
pub mod OpenReplays
