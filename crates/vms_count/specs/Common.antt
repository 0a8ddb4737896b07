-- The definitions that other crates and this one's proofs cite, passed on from one place. Declares nothing.
pub use Rattle.vms_count.specs.Changing.{CarriesFor, GoesWith, HasChanged, HasExchanged, HasLoaded}
pub use Rattle.vms_count.specs.Folding.{AreSums, FoldsGroups, FoldsPlace, FoldsPlaces, HasFolded, KeepsLoads}
pub use Rattle.vms_count.specs.Folding.{NoneForCounters, mine, owns_cpu, sum_at}
