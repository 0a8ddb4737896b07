-- The definitions that other crates and this one's proofs cite, passed on from one place. Declares nothing.
pub use Rattle.vms_written.specs.WrittenPhases.{HasPassEach, IsWrittenPhase}
pub use Rattle.vms_written.specs.OpenPhases.{BeginsWrittenPhase, GoesAlong}
pub use Rattle.vms_written.specs.WrittenRuns.{CrossesPages, IsWrittenHistory, LeadsThrough}
