mod Following
mod PartSegments
mod PartSteps
mod RecordedTexts
