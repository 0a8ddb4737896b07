mod AskedAnswers
mod EndedPhases
mod FirstLines
mod KernelThresholds
mod LedBodies
mod LedLines
mod LedTexts
mod LineStands
mod PassedBoundaries
mod PlainTotals
mod PrintedWaits
mod ReplayAnswers
mod TextWaits
mod WrittenWaits
pub mod OrderedPhases
