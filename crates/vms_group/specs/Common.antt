-- The definitions that other crates and this one's proofs cite, passed on from one place. Declares nothing.
pub use Rattle.vms_group.specs.SharedWords.{AreMadeFor, begins_it, ends_it, gap, line_of, number_in}
pub use Rattle.vms_group.specs.SharedWords.{pending_place, row_of, row_width, told, up_place, word_count, word_in}
pub use Rattle.vms_group.specs.CpuPasses.{CpuPass, HoldsSpending, IsCpuPass}
pub use Rattle.vms_group.specs.Flushing.{Flushed, FlushedFrom, FlushedGroup, FlushedWhere, TookFrom}
