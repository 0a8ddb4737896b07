-- For other crates too: the lemmas that they cite, passed on from one place. Declares nothing.
pub use Rattle.vms_total_laws.proofs.PassSums.{sum_below-first}
pub use Rattle.vms_total_laws.proofs.Ways.{MakeInAnyOrder-led}
pub use Rattle.vms_total_laws.proofs.StartTotals.{event-started, page-started}
pub use Rattle.vms_total_laws.proofs.PcpuReadings.{added_of_acts}
pub use Rattle.vms_total_laws.proofs.AddedLines.{added-by_pass, worth-lines, worth_at, worth_by, worth_of_lane}
pub use Rattle.vms_total_laws.proofs.PcpuWays.{pcpu-started}
