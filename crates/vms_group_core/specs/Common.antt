-- The definitions that other crates and this one's proofs cite, passed on from one place. Declares nothing.
pub use Rattle.vms_group_core.specs.Trees.{IsGroup, IsTree, IsTreeCpu, flags_after, group_count, in_subtree, is_child}
pub use Rattle.vms_group_core.specs.Trees.{is_flagged, is_parent, over_subtree, parent_of, subtree, subtree_below}
pub use Rattle.vms_group_core.specs.Trees.{subtree_flags}
pub use Rattle.vms_group_core.specs.Words.{HasShape, as_is, pending_at, pending_of, size_of, standing, up_at}
pub use Rattle.vms_group_core.specs.Words.{value_at, with_pending, with_up, with_value}
pub use Rattle.vms_group_core.specs.Steps.{effect, role, with_own_added}
pub use Rattle.vms_group_core.specs.Own.{CarriesNone, CarriesNothing, carried, carried_up, carried_up_after, in_hand}
pub use Rattle.vms_group_core.specs.Own.{moved, sum_of, without}
pub use Rattle.vms_group_core.specs.Totals.{changed, spent, spent_by}
pub use Rattle.vms_group_core.specs.Bases.{IsBase, fresh, most_in_base, zeros_of}
pub use Rattle.vms_group_core.specs.Conditions.{AddsToValue, AddsUp, Changes, FindsValue, Meets, TakesPending}
pub use Rattle.vms_group_core.specs.Conditions.{TakesUp}
pub use Rattle.vms_group_core.specs.Histories.{History, IsComplete, IsLegal, MayOwn, groups, state_after}
pub use Rattle.vms_group_core.specs.Quiet.{quiet_groups}
pub use Rattle.vms_group_core.specs.Laws.{BoundsWords, IsSmall, KeepsLaws, KeepsTotals, LivesToCarry, carried_by_all}
pub use Rattle.vms_group_core.specs.Laws.{changes, held, most_in_subtree, true_total}
pub use Rattle.vms_group_core.specs.Endings.{BeginsAgain, HoldsTotals, IsPaid, LeavesRoom, StaysWithinVolumes, ending}
pub use Rattle.vms_group_core.specs.Endings.{spent_by_now}
pub use Rattle.vms_group_core.specs.Calls.{Found, IsChange, IsFlush, IsGroupCall, IsValue, all_of, flushes}
pub use Rattle.vms_group_core.specs.Calls.{flushes_each, group_spent, moves_up, past_change, past_flushes}
pub use Rattle.vms_group_core.specs.Calls.{past_raises, past_rest, raises, read_group_call, read_takes, read_value}
pub use Rattle.vms_group_core.specs.Calls.{takes}
pub use Rattle.vms_group_core.specs.CallLaws.{CarryAsBefore, CarrySame, Flushes, HasMade, KeepsSpending, MayCall}
pub use Rattle.vms_group_core.specs.CallLaws.{MayMake, SpendNothing, SpendsSince, Tells}
