pub mod Owning
pub mod Handles
pub mod Opened
pub mod Calls
pub mod EventCalls
pub mod PcpuCalls
pub mod Burials
pub mod Refusals
