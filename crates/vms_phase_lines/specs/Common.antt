-- The definitions that other crates and this one's proofs cite, passed on from one place. Declares nothing.
pub use Rattle.vms_phase_lines.specs.Lines.{event_lines}
pub use Rattle.vms_phase_lines.specs.Acts.{lane_makes}
pub use Rattle.vms_phase_lines.specs.Fitting.{FitPages}
pub use Rattle.vms_phase_lines.specs.Lanes.{HaveBegun, OpensLanes, ShowsLined, slot_of}
pub use Rattle.vms_phase_lines.specs.Phases.{IsPhaseInOrder, IsWriting}
