pub mod Texts
pub mod Numbers
pub mod Left
pub mod Common
