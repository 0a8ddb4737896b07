-- The definitions that other crates and this one's proofs cite, passed on from one place. Declares nothing.
pub use Rattle.vms_tool.specs.Naming.{command_of}
pub use Rattle.vms_tool.specs.Answers.{AnswersUnder, SaysOf, ShownAs, ShowsUsage, no_phases, usage_line}
pub use Rattle.vms_tool.specs.OneOutput.{HasOneOutput, HasOneOutputOfText, IsDecided}
