pub mod RecordedWays
