-- The definitions that other crates and this one's proofs cite, passed on from one place. Declares nothing.
pub use Rattle.vms_hotplug.specs.Folding.{FlushesCpu, IsSmallState}
pub use Rattle.vms_hotplug.specs.Settings.{MayMark}
