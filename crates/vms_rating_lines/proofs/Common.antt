-- For other crates too: the lemmas that they cite, passed on from one place. Declares nothing.
pub use Rattle.vms_rating_lines.proofs.StepLines.{lines-append}
pub use Rattle.vms_rating_lines.proofs.Begun.{Begins-kept, Begins-more, Begins-self, Begins-then}
