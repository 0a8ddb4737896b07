-- The definitions that other crates and this one's proofs cite, passed on from one place. Declares nothing.
pub use Rattle.vms_group_lines.specs.Causes.{group_cause_name}
pub use Rattle.vms_group_lines.specs.Headers.{IsGroupHeader, group_field}
pub use Rattle.vms_group_lines.specs.Stages.{IsGroupDraft, IsGroupStage, IsHeadStep, first_draft}
pub use Rattle.vms_group_lines.specs.declared.stages.GroupStage.{GroupStage}
pub use Rattle.vms_group_lines.specs.declared.stages.GroupStage.TheVariants.{Opening, Versioned, Declaring}
pub use Rattle.vms_group_lines.specs.declared.stages.HeadStep.{HeadStep}
pub use Rattle.vms_group_lines.specs.declared.stages.HeadStep.TheVariants.{Goes, Ends}
pub use Rattle.vms_group_lines.specs.HeadLines.{GroupFault, cpus_line, declaring_line, go_row, group_head_line}
pub use Rattle.vms_group_lines.specs.HeadLines.{group_header_from, group_missing, group_row, magic_line}
pub use Rattle.vms_group_lines.specs.HeadLines.{on_group_step, read_group_header, stage_line, with_cpus, with_group}
pub use Rattle.vms_group_lines.specs.Steps.{EndsValid, IsRead, StepsTo}
pub use Rattle.vms_group_lines.specs.Lines.{IsGroupCallOf, IsGroupLineOf, amount_field, boundary_line, call_line}
pub use Rattle.vms_group_lines.specs.Lines.{is_lane_word, lane_cpu, lane_line, lane_number, read_group_line, read_words}
pub use Rattle.vms_group_lines.specs.Judging.{allowed_group_line, exceeds_volume, group_line_spent, group_volume}
pub use Rattle.vms_group_lines.specs.Judging.{judged_group, with_group_line}
pub use Rattle.vms_group_lines.specs.JudgeStates.{Decides, GroupJudgeStands, SomeGroupJudge, answered}
pub use Rattle.vms_group_lines.specs.Laws.{GroupHeadersAreSettled, GroupHeadersAreValid, IsGroupSettled}
pub use Rattle.vms_group_lines.specs.Laws.{JudgedGroupLinesFit, StayWithinVolumes}
