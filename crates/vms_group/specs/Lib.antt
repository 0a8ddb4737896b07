pub mod SharedWords
pub mod CpuPasses
pub mod Flushing
pub mod Common
