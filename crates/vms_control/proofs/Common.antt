-- For other crates too: the lemmas that they cite, passed on from one place. Declares nothing.
pub use Rattle.vms_control.proofs.SameSums.{SameSums, node-same, refresh-same}
pub use Rattle.vms_control.proofs.PassCalls.{control-new, has-made, of-new, sums-made}
pub use Rattle.vms_control.proofs.QuietSteps.{SetsNothing, folds-set_nothing, looks-set_nothing, quiet-sets}
pub use Rattle.vms_control.proofs.LargestSets.{largest-grows}
