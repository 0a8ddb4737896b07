-- The definitions that other crates and this one's proofs cite, passed on from one place. Declares nothing.
pub use Rattle.vms_script.specs.Cpus.{cpu_state, online_among, online_below, online_count, state_past}
pub use Rattle.vms_script.specs.Volumes.{by_cpu, spent_on_counter, spent_on_event, spent_on_pcpu, volume}
pub use Rattle.vms_script.specs.Starts.{IsWithin, Start, first_start, start_after, start_at_end, start_past}
pub use Rattle.vms_script.specs.Judging.{allowed, allowed_boundary, allowed_burial, allowed_from, allowed_of_control}
pub use Rattle.vms_script.specs.Judging.{allowed_online, counted_of, judged, judged_from, overflows, overflows_from}
pub use Rattle.vms_script.specs.Judging.{with_counted}
pub use Rattle.vms_script.specs.JudgeStates.{CanApply, Decides, FindsEffect, HasCell, HasEffect, IsInOneSpelling}
pub use Rattle.vms_script.specs.JudgeStates.{JudgeStands, MayJudge, TellsCpuStates, TellsVolumes, answered, new_volume}
pub use Rattle.vms_script.specs.JudgeStates.{volume_at, with_new_volume}
pub use Rattle.vms_script.specs.Totals.{ArePhases, HasTotal, act_change, change_by, changes_by, changes_by_all, line_of}
pub use Rattle.vms_script.specs.Totals.{lines_of_phases, plain_total, sizes_by, sizes_by_all}
pub use Rattle.vms_script.specs.PhaseScripts.{IsLaneScript, IsPhaseScript, is_lane, lane_item, lane_items}
pub use Rattle.vms_script.specs.FittingScripts.{AreAllowed, Fits, FittingScriptsStayWithin}
pub use Rattle.vms_script.specs.Scripts.{Feeds, FeedsLine, Gave, HoldsScript, IsFedLine, IsOpenScript, MayKeep, Script}
pub use Rattle.vms_script.specs.Scripts.{SomeScripter, Takes, fed_of, phase_start, phases_of, script_with_line}
pub use Rattle.vms_script.specs.Scripts.{with_taken}
pub use Rattle.vms_script.specs.Segments.{AreSegments, Between, BoundariesCut, LinesMakeOnePhase, NumberedLine, Phase}
pub use Rattle.vms_script.specs.Segments.{Segment, SegmentsHaveAllLines, SegmentsMayStand, kept_items}
pub use Rattle.vms_script.specs.Segments.{lines_of_segments, numbered_lines, phase_if_any, segments_of, segments_with}
pub use Rattle.vms_script.specs.Segments.{segments_with_item, with_kept}
