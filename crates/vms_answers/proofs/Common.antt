-- For other crates too: the lemmas that they cite, passed on from one place. Declares nothing.
pub use Rattle.vms_answers.proofs.OpenAnswers.{Answered-line, Answered-none, LaneSteps-same, answers_of-closing}
pub use Rattle.vms_answers.proofs.ActAnswers.{Tell-call, Tell-events, Tell-pages, TellsEventCall, read-by_call}
pub use Rattle.vms_answers.proofs.KeptAnswers.{told-keepable}
pub use Rattle.vms_answers.proofs.ControlAnswers.{Tell-burial}
pub use Rattle.vms_answers.proofs.MergedLines.{merged-everywhere}
