pub mod Reports
pub mod Common
