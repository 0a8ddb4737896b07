pub mod Peaks
pub mod Askings
pub mod Calling
pub mod Walks
