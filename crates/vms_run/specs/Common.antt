-- The definitions that other crates and this one's proofs cite, passed on from one place. Declares nothing.
pub use Rattle.vms_run.specs.Threads.{makes_on_threads}
pub use Rattle.vms_run.specs.RunPhases.{facts_told}
pub use Rattle.vms_run.specs.Runners.{IsOneRun, IsRun}
pub use Rattle.vms_run.specs.MadeTexts.{AnswersMade, reading_made}
