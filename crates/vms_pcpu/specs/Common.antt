-- The definitions that other crates and this one's proofs cite, passed on from one place. Declares nothing.
pub use Rattle.vms_pcpu.specs.SharedWords.{begins_it, count_place, ends_it, local_place, locals_start, lock_place}
pub use Rattle.vms_pcpu.specs.SharedWords.{lock_word, pair_word, told, word_count}
pub use Rattle.vms_pcpu.specs.IdlePasses.{CpuPass, HoldsSpending, IsCpuPass, IsReady, MakesCall}
pub use Rattle.vms_pcpu.specs.Answers.{CompareMeans, HasFoldedDead, LimitedAddMeans, SumMeans}
pub use Rattle.vms_pcpu.specs.CallVolumes.{with_spent}
pub use Rattle.vms_pcpu.specs.HeldLocks.{GivesUp, GivesUpAdd, GivesUpLimitedAdd}
