pub mod Parts
pub mod Copying
pub mod BodyStates
pub mod CopiedTexts
pub mod Common
