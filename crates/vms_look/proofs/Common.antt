-- For other crates too: the lemmas that they cite, passed on from one place. Declares nothing.
pub use Rattle.vms_look.proofs.LookSteps.{sums-whole_call}
pub use Rattle.vms_look.proofs.TestMoments.{tells-whole_call, truly-whole_call}
