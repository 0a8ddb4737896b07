-- The definitions that other crates and this one's proofs cite, passed on from one place. Declares nothing.
pub use Rattle.vms_io.specs.Faults.{CountsFaults, FailsNext, LastFails, one_call_more}
pub use Rattle.vms_io.specs.Reading.{Gets, Searched, WholeLines}
pub use Rattle.vms_io.specs.InMemory.{IsFull}
