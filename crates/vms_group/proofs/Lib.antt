pub mod ShownWords
pub mod KnownPasses
pub mod StepWords
pub mod OpeningWords
pub mod ClosedWords
pub mod FlushedGroups
pub mod RowLines
