-- For other crates too: the lemmas that they cite, passed on from one place. Declares nothing.
pub use Rattle.vms_plain_control.proofs.UntouchedPeaks.{KnowsPeaks-left, LeavesPeaks, folds-leave, looks-leave}
pub use Rattle.vms_plain_control.proofs.ControlledHistories.{ControlsIn-after}
