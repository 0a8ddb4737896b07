pub mod BodyLines
pub mod HeadLines
pub mod CommandLines
pub mod WholeText
pub mod PlainBodies
pub mod Common
