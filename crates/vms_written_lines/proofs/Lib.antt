mod WordsRead
mod FirstWords
mod EightRead
pub mod NarrowSteps
mod LineTexts
pub mod EventsRead
mod EndedLines
