mod Owning
mod Others
mod Kept
mod SpentByOthers
mod Between
mod ThreeTables
mod EventVolumes
mod FoundStates
