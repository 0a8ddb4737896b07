-- The definitions that other crates and this one's proofs cite, passed on from one place. Declares nothing.
pub use Rattle.vms_groups.specs.PastPhases.{HasPlainTotals, IsPhaseFrom, PastGroupPhase, group_world_after, plain_total}
pub use Rattle.vms_groups.specs.PastPhases.{with_lines}
pub use Rattle.vms_groups.specs.GroupTexts.{groups_texts, shown_by_groups}
pub use Rattle.vms_groups.specs.MadePhases.{AreAllPhases, AreFirstPhases, AreFirstTaken, IsLawfulPhase, PhasesLeadFrom}
pub use Rattle.vms_groups.specs.MadePhases.{phase_lines}
pub use Rattle.vms_groups.specs.GroupAnswers.{AnswersGroups, SaysGroups}
