-- The definitions that other crates and this one's proofs cite, passed on from one place. Declares nothing.
pub use Rattle.vms_tables.specs.Tables.{AreMadeFrom, AreTables, world_of}
pub use Rattle.vms_tables.specs.Passes.{AllOwn, AreFrom, AreLive, HaveSeenNothing, HaveVolumes, TablePasses, mains_of}
pub use Rattle.vms_tables.specs.Passes.{passes_of}
