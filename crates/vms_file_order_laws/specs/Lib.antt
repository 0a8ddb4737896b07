pub mod Rules
pub mod Common
