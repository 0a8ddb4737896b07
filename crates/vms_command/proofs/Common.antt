-- For other crates too: the lemmas that they cite, passed on from one place. Declares nothing.
pub use Rattle.vms_command.proofs.BodyLines.{one_more}
pub use Rattle.vms_command.proofs.WholeText.{WritesTexts-holds}
pub use Rattle.vms_command.proofs.PlainBodies.{BodyTakes-plain, ClosesBody-plain, IsPlain, TakesAndWrites-plain}
