-- The definitions that other crates and this one's proofs cite, passed on from one place. Declares nothing.
pub use Rattle.vms_control.specs.Online.{FoundOnline, cpu_number_in, no_cpu}
pub use Rattle.vms_control.specs.SetCounts.{MayStillSet, SetsAtMost, never, once}
pub use Rattle.vms_control.specs.Unladen.{StaysUnladen}
