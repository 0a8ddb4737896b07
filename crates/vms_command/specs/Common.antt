-- The definitions that other crates and this one's proofs cite, passed on from one place. Declares nothing.
pub use Rattle.vms_command.specs.Limits.{exceeds_limit, most_lines}
pub use Rattle.vms_command.specs.Printing.{done_line, header_line, line_cause, line_prefix, refused_line}
pub use Rattle.vms_command.specs.Lines.{LinesAbove, come_to, nothing_above, with_judged}
pub use Rattle.vms_command.specs.Commands.{CommandState, MayEnd-status_at_end, TraceCommand, after_head, ends_at_judged}
pub use Rattle.vms_command.specs.Commands.{ends_phase_at, exceeds, following, halted_at, halts_at, line_text, phase_at}
pub use Rattle.vms_command.specs.Commands.{printed_head, refuses, status_at_end}
pub use Rattle.vms_command.specs.Commands.CommandState.{Body, Heading}
pub use Rattle.vms_command.specs.Texts.{WritesTexts, body_text, command_text, kept_by_command, printed_of, text_under}
pub use Rattle.vms_command.specs.Bodies.{BodyTakes, ClosesBody, EndsAfter, GoesPast, IsJudgedAfter, SomeEnd, SomeLine}
pub use Rattle.vms_command.specs.Bodies.{quietly, shown_at_end, shown_given}
pub use Rattle.vms_command.specs.Tallies.{Adds, IsTallyOf}
pub use Rattle.vms_command.specs.JobStates.{BeginsBody, InBody, InSomeBody, IsHead, IsWork, StandsAfter, StandsAt}
pub use Rattle.vms_command.specs.JobStates.{StepsToWork, TakesHeadLine}
