-- For other crates too: the lemmas that they cite, passed on from one place. Declares nothing.
pub use Rattle.vms_stream.proofs.TwoPieces.{lines_of-parts}
pub use Rattle.vms_stream.proofs.GivenOutcomes.{Closes-given, ClosesPhased-also, ClosesPhased-given, TakesLines-given}
pub use Rattle.vms_stream.proofs.GivenOutcomes.{TakesLines-given_exceeding, TakesLines-given_refused, TakesPhased-also}
pub use Rattle.vms_stream.proofs.GivenOutcomes.{TakesPhased-given}
pub use Rattle.vms_stream.proofs.TextOrder.{output-in_order}
pub use Rattle.vms_stream.proofs.PlainAnswers.{TakesAndWrites-plainly, plain_printed, plain_waits}
pub use Rattle.vms_stream.proofs.TakenTexts.{Grows-nil}
