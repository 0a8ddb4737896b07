-- The definitions that other crates and this one's proofs cite, passed on from one place. Declares nothing.
pub use Rattle.vms_pcpu_core.specs.States.{HasShape, IsPcpu, LockedState, batch_at, count_at, counters_of, cpu_at}
pub use Rattle.vms_pcpu_core.specs.States.{held_at, local_at, with_count, with_held, with_local}
pub use Rattle.vms_pcpu_core.specs.Bases.{HasLengths, IsBase, IsCounterBase, IsLocalBase, most_batch}
pub use Rattle.vms_pcpu_core.specs.Steps.{effect, role, with_own_added}
pub use Rattle.vms_pcpu_core.specs.Own.{HoldsNoLock, carried, carried_after, holds_lock, holds_lock_after}
pub use Rattle.vms_pcpu_core.specs.Totals.{amount_of, amounts, holder, holder_after, is_owned, locals, present, spent}
pub use Rattle.vms_pcpu_core.specs.Totals.{spent_by, true_total}
pub use Rattle.vms_pcpu_core.specs.OwnSteps.{AddsAmount, GoesByOwnSteps, IsIdle, LeavesIdle, added_through, as_is}
pub use Rattle.vms_pcpu_core.specs.OwnSteps.{carried_through, holds_through, own_added, size_of}
pub use Rattle.vms_pcpu_core.specs.Effects.{count_after, held_after, local_after}
pub use Rattle.vms_pcpu_core.specs.Conditions.{AddsToCount, AddsToLocal, GivesBack, LoadsCount, LoadsLocal, MayAdd}
pub use Rattle.vms_pcpu_core.specs.Conditions.{MayTake, Meets, MissesLock, TakesLocal, WinsLock}
pub use Rattle.vms_pcpu_core.specs.Histories.{History, IsLegal, MayOwn, percpu, state_after}
pub use Rattle.vms_pcpu_core.specs.Quiet.{quiet_percpu}
pub use Rattle.vms_pcpu_core.specs.Laws.{AddsByCaller, BoundsLocals, DriftsLittle, HasOneHolder, IsSmall, KeepsLaws}
pub use Rattle.vms_pcpu_core.specs.Laws.{KeepsTotals, KeepsVolumesByPass, MovesOnce, carried_by_all, most_number}
pub use Rattle.vms_pcpu_core.specs.Laws.{numbers_after, spent_by_pass, step_number, taken_by, takings, takings_after}
pub use Rattle.vms_pcpu_core.specs.Endings.{BeginsAgain, HoldsTotals, IsComplete, IsPaid, LeavesRoom}
pub use Rattle.vms_pcpu_core.specs.Endings.{StaysWithinVolumes, ending, most_start, spent_by_now}
pub use Rattle.vms_pcpu_core.specs.Calls.{EndsLimitedAdd, IsAdd, IsCompare, IsFoldDead, IsLimitedAdd, IsRead, IsSum}
pub use Rattle.vms_pcpu_core.specs.Calls.{IsSync, Judges, LoadsEach, Locks, Probes, present_cpus, room, sign_of}
pub use Rattle.vms_pcpu_core.specs.Calls.{unknown}
pub use Rattle.vms_pcpu_core.specs.Calls.EndsLimitedAdd.{no_ends, yes_ends}
pub use Rattle.vms_pcpu_core.specs.Calls.IsAdd.{below, reached}
pub use Rattle.vms_pcpu_core.specs.Calls.IsCompare.{far, near}
pub use Rattle.vms_pcpu_core.specs.Calls.IsFoldDead.{no_counter, one_counter}
pub use Rattle.vms_pcpu_core.specs.Calls.IsLimitedAdd.{locked, nothing, unlocked}
pub use Rattle.vms_pcpu_core.specs.Calls.IsSum.{summed}
pub use Rattle.vms_pcpu_core.specs.Calls.IsSync.{moved}
pub use Rattle.vms_pcpu_core.specs.Calls.Judges.{beyond, close, inside}
pub use Rattle.vms_pcpu_core.specs.Calls.LoadsEach.{no_cpu, one_cpu}
pub use Rattle.vms_pcpu_core.specs.Calls.Locks.{missed, won}
pub use Rattle.vms_pcpu_core.specs.Calls.Probes.{large, narrow}
pub use Rattle.vms_pcpu_core.specs.Readings.{compared, past_add, past_unlock, past_unlocks, read_add, read_compare}
pub use Rattle.vms_pcpu_core.specs.Readings.{read_count, read_fold_dead, read_limited, read_limited_add, read_sum}
pub use Rattle.vms_pcpu_core.specs.Readings.{read_sync, with_load}
pub use Rattle.vms_pcpu_core.specs.Knowledge.{AreLoads, IsLoad, Watches, added, added_by, added_since}
pub use Rattle.vms_pcpu_core.specs.MadeBetween.{MadeSteps, MadeWithin, event}
pub use Rattle.vms_pcpu_core.specs.Summing.{SumsUp, TellsBySum, TellsRoughly, most_sum}
pub use Rattle.vms_pcpu_core.specs.Limits.{IsAlone, IsExact, KeepsLimit, PassesLimit, by_others, by_others_between}
pub use Rattle.vms_pcpu_core.specs.Limits.{carried_by_others, fall, rise}
pub use Rattle.vms_pcpu_core.specs.MayCall.{MakesAdd, MakesCompare, MakesFoldDead, MakesLimitedAdd, MakesRead, MakesSum}
pub use Rattle.vms_pcpu_core.specs.MayCall.{MakesSync, MayCall, MayChangePcpu, MayMake, Tells}
pub use Rattle.vms_pcpu_core.specs.PcpuCalls.{AddsAmounts, IsOwnersCall, IsPcpuCall, IsWithin, LeavesVolume, MakesCalls}
pub use Rattle.vms_pcpu_core.specs.PcpuCalls.{MakesPcpuCall, NamesKnown, answered, pcpu_added, pcpu_spent}
pub use Rattle.vms_pcpu_core.specs.PcpuCalls.{read_pcpu_call, says_made, spent_by_call}
