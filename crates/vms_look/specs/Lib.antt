pub mod SnapshotTotals
pub mod Looking
pub mod Slack
pub mod Truth
pub mod Common
