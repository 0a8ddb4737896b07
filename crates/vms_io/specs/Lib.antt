pub mod Faults
pub mod Reading
pub mod InMemory
pub mod Common
