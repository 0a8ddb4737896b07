-- The definitions that other crates and this one's proofs cite, passed on from one place. Declares nothing.
pub use Rattle.vms_wait_laws.specs.Waits.{AskInsidePhases, HoldsBackNothing, WaitInsidePhases}
pub use Rattle.vms_wait_laws.specs.Orders.{PrintsInOrder}
