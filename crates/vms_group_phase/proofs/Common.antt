-- For other crates too: the lemmas that they cite, passed on from one place. Declares nothing.
pub use Rattle.vms_group_phase.proofs.ListedReads.{get_or-listed}
