-- The definitions that other crates and this one's proofs cite, passed on from one place. Declares nothing.
pub use Rattle.vms_replay.specs.KernelRules.{GoesBy, normal_rule, normal_zones, pressure_rule}
pub use Rattle.vms_replay.specs.MadePhases.{PastPhase, PhaseFacts, answers_in, crossed, first_world, phase_facts}
pub use Rattle.vms_replay.specs.MadePhases.{phase_of, with_given, world_after}
pub use Rattle.vms_replay.specs.PlainReports.{HasPlainTotals}
pub use Rattle.vms_replay.specs.Replaying.{Kept, MayBe, act_text, answer_text, asking_text, boundary_report, first_kept}
pub use Rattle.vms_replay.specs.Replaying.{has_some, is_asking, judged_text, next_kept, replaying, shown_by_replay}
pub use Rattle.vms_replay.specs.Replaying.{text_after}
pub use Rattle.vms_replay.specs.Waits.{AreAnswersOf, Ascend, IsBelow, TellsWaits, asked_numbers, asking_numbers}
pub use Rattle.vms_replay.specs.Waits.{wait_text, written}
pub use Rattle.vms_replay.specs.Printing.{Prints, printed_by}
pub use Rattle.vms_replay.specs.Engines.{EngineMakesPhase}
pub use Rattle.vms_replay.specs.ReplayStates.{CrossesTo, Ended, EndsPhase, Runs, StandsBefore, printed_given}
pub use Rattle.vms_replay.specs.ReplayStates.{world_report}
pub use Rattle.vms_replay.specs.ReplayedTexts.{AddUpOn, AreAllOf, AreFirstTaken, IsLawful, PhasesLeadFrom}
pub use Rattle.vms_replay.specs.ReplayedTexts.{PhasesLeadThrough, PhasesLeadThroughFront, TextsLeadOn, histories_in}
pub use Rattle.vms_replay.specs.ReplayedTexts.{phases_on}
pub use Rattle.vms_replay.specs.ReplayAnswers.{AnswersReplayed, AreMadeWith, SaysReplayed}
pub use Rattle.vms_replay.specs.FileOrders.{SaysReplay, makes_in_order}
