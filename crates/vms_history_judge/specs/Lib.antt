pub mod WrittenRules
pub mod Takes
pub mod Judges
