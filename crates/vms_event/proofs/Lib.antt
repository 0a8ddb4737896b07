pub mod ShownWords
pub mod OpeningWords
pub mod KnownSpending
pub mod OwnCounts
pub mod LoadedWords
pub mod KeptControl
pub mod MovedWords
pub mod Common
