pub mod Naming
pub mod Answers
pub mod Exits
pub mod Programs
pub mod OneOutput
pub mod Common
