-- The definitions that other crates and this one's proofs cite, passed on from one place. Declares nothing.
pub use Rattle.vms_bench.specs.Events.{AreOnline}
pub use Rattle.vms_bench.specs.Locals.{AreOpen, IsUnused}
pub use Rattle.vms_bench.specs.Pages.{Carries, HasLooked, IsOwn, IsTarget, own_of}
