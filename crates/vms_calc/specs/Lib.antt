pub mod Areas
pub mod Rules
pub mod Common
