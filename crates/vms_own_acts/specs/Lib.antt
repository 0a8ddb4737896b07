pub mod Rules
pub mod Histories
pub mod InRow
pub mod Along
pub mod Ways
pub mod Common
