-- The definitions that other crates and this one's proofs cite, passed on from one place. Declares nothing.
pub use Rattle.vms_event_core.specs.Words.{HasShape, IsEvent, event_count, sum_of_words, with_word, word_at}
pub use Rattle.vms_event_core.specs.Steps.{effect, effect_of, own_effect, role}
pub use Rattle.vms_event_core.specs.Own.{CarriesNothing, carried, moved}
pub use Rattle.vms_event_core.specs.Totals.{counted, found_some, spent, spent_by, taken_from, takes, takes_by}
pub use Rattle.vms_event_core.specs.Totals.{word_after, word_in}
pub use Rattle.vms_event_core.specs.Bases.{IsBase, IsLowestOnline, cpu_at, most_in_base}
pub use Rattle.vms_event_core.specs.Conditions.{Meets}
pub use Rattle.vms_event_core.specs.Events.{History, IsComplete, IsLegal, MayOwn, carried_by_all, events, state_after}
pub use Rattle.vms_event_core.specs.Events.{true_total}
pub use Rattle.vms_event_core.specs.Quiet.{quiet_events}
pub use Rattle.vms_event_core.specs.Laws.{BoundsWords, IsLiveControl, KeepsLaws, KeepsTotals, MovesOnce, most_in_sum}
pub use Rattle.vms_event_core.specs.Endings.{BeginsAgain, HoldsTotals, IsPaid, LeavesRoom, StaysWithinVolumes, ending}
pub use Rattle.vms_event_core.specs.Endings.{spent_by_now}
pub use Rattle.vms_event_core.specs.Calls.{AtMostStands, IsAllEvents, IsCount, IsCpuCall, IsEventCall, IsFoldEvents}
pub use Rattle.vms_event_core.specs.Calls.{event_spent, folds, loads, moves, online_cpus, read_all_events}
pub use Rattle.vms_event_core.specs.Calls.{read_event_call, read_fold_events, sum_over}
pub use Rattle.vms_event_core.specs.CallLaws.{CarryAsBefore, HasMade, KeepsSpending, LeavesZeros, MayCall, MayMake}
pub use Rattle.vms_event_core.specs.CallLaws.{SpendNothing, SpendsSince, SumsBetween, Tells}
