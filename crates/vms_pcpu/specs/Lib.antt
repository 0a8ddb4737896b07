pub mod SharedWords
pub mod IdlePasses
pub mod Answers
pub mod CallVolumes
pub mod HeldLocks
pub mod Common
