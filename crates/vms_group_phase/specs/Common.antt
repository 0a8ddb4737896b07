-- The definitions that other crates and this one's proofs cite, passed on from one place. Declares nothing.
pub use Rattle.vms_group_phase.specs.Listed.{listed_by_cpu}
pub use Rattle.vms_group_phase.specs.Lines.{AreCounted, IsLineOf, asking, asks, group_of, has_some, lane_lines}
pub use Rattle.vms_group_phase.specs.Lines.{lanes_below, pass_of, plain_change}
pub use Rattle.vms_group_phase.specs.Lines.{plain_group_sum, spent_by_lines}
pub use Rattle.vms_group_phase.specs.Worlds.{FitGroups, FitVolumes, IsGroupWorld, first_group_world, group_facts}
pub use Rattle.vms_group_phase.specs.Worlds.{group_volume_after, group_volume_in, left_group_world, pending_in}
pub use Rattle.vms_group_phase.specs.Phases.{AreOfLines, BeginWithCall, IsGroupPhase, MakesLines, group_values}
pub use Rattle.vms_group_phase.specs.Phases.{joins_of, read_lines, splits_of, steps_of, value_in, value_of_line}
pub use Rattle.vms_group_phase.specs.Phases.{values_after, values_among}
pub use Rattle.vms_group_phase.specs.LaneRuns.{HasGrown, HasRoom, HasRunJob, HaveRunJobs, MakesCall, MayRunJob}
pub use Rattle.vms_group_phase.specs.LaneRuns.{RunsLines}
pub use Rattle.vms_group_phase.specs.Lanes.{AreResults, HasRunLane, HaveBegunLanes, HaveEndedLanes, HaveRunLanes}
pub use Rattle.vms_group_phase.specs.Lanes.{IsLaneJob, IsOver, taken_after, taken_by_line, values_of}
