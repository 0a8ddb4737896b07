pub mod Notes
pub mod Amounts
pub mod Known
pub mod Keeps
pub mod Conditions
