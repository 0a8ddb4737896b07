-- The definitions that other crates and this one's proofs cite, passed on from one place. Declares nothing.
pub use Rattle.vms_replay_phase.specs.Spending.{AreVolumesOf, spent_by_act, spent_by_line, volumes_raised}
pub use Rattle.vms_replay_phase.specs.CountedVolumes.{CountVolumes}
pub use Rattle.vms_replay_phase.specs.Lines.{MakesLine, MayMakeLine}
pub use Rattle.vms_replay_phase.specs.OpenReplays.{AnswersLine, BeginsReplay, HasReplayed, ReplayState, ReplaysLine}
pub use Rattle.vms_replay_phase.specs.ReplayedPhases.{IsReplayed}
