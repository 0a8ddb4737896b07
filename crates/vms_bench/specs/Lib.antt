pub mod Events
pub mod Locals
pub mod Pages
pub mod Common
