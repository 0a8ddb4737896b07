pub mod PcpuSpending
pub mod WaySpending
pub mod LeftWorlds
