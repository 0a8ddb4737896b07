pub mod Bounds
pub mod Leads
pub mod Said
pub mod Accepts
pub mod Says
