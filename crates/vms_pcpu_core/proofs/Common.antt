-- For other crates too: the lemmas that they cite, passed on from one place. Declares nothing.
pub use Rattle.vms_pcpu_core.proofs.Effects.{count_at-effect, held_at-effect, local_at-effect}
pub use Rattle.vms_pcpu_core.proofs.Shapes.{HasShape-state_after, batch_at-state_after}
pub use Rattle.vms_pcpu_core.proofs.Totals.{owned}
pub use Rattle.vms_pcpu_core.proofs.Bounds.{locals-bounded}
pub use Rattle.vms_pcpu_core.proofs.Sizes.{amounts-most, spent_most, step_number-small}
pub use Rattle.vms_pcpu_core.proofs.Locks.{holder-one}
pub use Rattle.vms_pcpu_core.proofs.DeadLocals.{dead-moves_once}
pub use Rattle.vms_pcpu_core.proofs.Readings.{read_fold_dead-call}
pub use Rattle.vms_pcpu_core.proofs.CallsWithin.{made-by_living}
pub use Rattle.vms_pcpu_core.proofs.SumCalls.{compare-by_sum, compare-rough, sum-call}
pub use Rattle.vms_pcpu_core.proofs.LimitedAdds.{limited-no, limited-yes}
pub use Rattle.vms_pcpu_core.proofs.Alone.{limited-exact}
pub use Rattle.vms_pcpu_core.proofs.OwnSteps.{LeavesIdle-holds, add-adds, compare-adds, fold_dead-adds}
pub use Rattle.vms_pcpu_core.proofs.OwnSteps.{limited_add-adds, read-adds, sum-adds, sync-adds}
pub use Rattle.vms_pcpu_core.proofs.ByCaller.{AddsByCaller-holds}
pub use Rattle.vms_pcpu_core.proofs.BaseAgain.{totals-hold, volumes-begin_again}
pub use Rattle.vms_pcpu_core.proofs.AllLaws.{laws-kept}
pub use Rattle.vms_pcpu_core.proofs.FoldedCpus.{folded-none}
pub use Rattle.vms_pcpu_core.proofs.StepConditions.{spends-amount}
pub use Rattle.vms_pcpu_core.proofs.CallsAllowed.{MakesAdd-holds, MakesFoldDead-holds, MakesLimitedAdd-holds}
pub use Rattle.vms_pcpu_core.proofs.CallsAllowed.{MakesSum-holds, MakesSync-holds}
pub use Rattle.vms_pcpu_core.proofs.PcpuCalls.{LeavesVolume-less, MakesCalls-hold, added-within, adds-call}
pub use Rattle.vms_pcpu_core.proofs.PcpuCalls.{amounts-after, fold-call, idle-after, sizes-after, tells-call}
