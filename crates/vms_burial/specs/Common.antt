-- The definitions that other crates and this one's proofs cite, passed on from one place. Declares nothing.
pub use Rattle.vms_burial.specs.Passes.{passes_of}
pub use Rattle.vms_burial.specs.Burials.{FoldsDeadEvents, FoldsDeadLocals}
