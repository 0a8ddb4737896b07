-- The definitions that other crates and this one's proofs cite, passed on from one place. Declares nothing.
pub use Rattle.vms_recording.specs.Written.{WritesFront, most_waiting}
pub use Rattle.vms_recording.specs.PhaseParts.{BeginsPhase, IsPartOfPhase, WritesLines, WritesPhase}
pub use Rattle.vms_recording.specs.PhaseParts.{WritesRest}
pub use Rattle.vms_recording.specs.Recording.{Flushes, IsDueInPhase, IsFrontOf, IsRecording, RecordsPhase}
pub use Rattle.vms_recording.specs.Recording.{StopsInPhase}
