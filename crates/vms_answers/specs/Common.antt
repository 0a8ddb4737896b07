-- The definitions that other crates and this one's proofs cite, passed on from one place. Declares nothing.
pub use Rattle.vms_answers.specs.Answers.{LaneSteps, Tell, event_told, first_answer, joined, no_steps}
pub use Rattle.vms_answers.specs.Answers.{on_counters, on_events, on_pages, page_told, pcpu_told, read_act}
pub use Rattle.vms_answers.specs.Answers.{read_event_act, read_page_act, read_pcpu_act, then_steps, told}
pub use Rattle.vms_answers.specs.PhaseAnswers.{NumberedAnswer, answers_of, read_lines, steps_by, steps_of, with_answer}
pub use Rattle.vms_answers.specs.PhaseAnswers.{with_left}
pub use Rattle.vms_answers.specs.OpenAnswers.{Answered, steps_of_line, then_later}
pub use Rattle.vms_answers.specs.ToldAnswers.{IsKeepableAnswer, answer_of_kept}
pub use Rattle.vms_answers.specs.AnswerLines.{answer_line}
pub use Rattle.vms_answers.specs.Merging.{LanesAnswer, merged, read_lane, taken_answer, with_told}
pub use Rattle.vms_answers.specs.Told.{HasPlace, lane_place, left_of, told_by, told_in}
