pub mod SharedWords
pub mod CpuPasses
pub mod ControlPasses
pub mod FoldedCpus
pub mod Common
