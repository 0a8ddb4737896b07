pub mod Prefixes
pub mod OneVerdict
