pub mod Results
pub mod HeadersKept
pub mod HeadLines
pub mod HeadersSettled
pub mod BodyLines
pub mod LinesKnown
pub mod Volumes
pub mod Common
