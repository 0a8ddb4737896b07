pub mod Seeking
pub mod Passing
pub mod LeftThresholds
pub mod Common
