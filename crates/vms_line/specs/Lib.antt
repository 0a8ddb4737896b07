pub mod Fields
pub mod Forms
pub mod Body
pub mod Spelling
pub mod Laws
pub mod Common
