-- For other crates too: the lemmas that they cite, passed on from one place. Declares nothing.
pub use Rattle.vms_core.proofs.Effects.{HasShape-effect, diff_after, diff_at-effect, group-within}
pub use Rattle.vms_core.proofs.Shapes.{HasShape-state_after}
pub use Rattle.vms_core.proofs.PastThreshold.{carried_by-past, differential_after-past}
pub use Rattle.vms_core.proofs.PlainData.{AreBytes-opening, byte, places_of-shaped}
pub use Rattle.vms_core.proofs.CounterRanges.{counter_at-first, counter_at-known, first-known}
pub use Rattle.vms_core.proofs.WorkerSteps.{Stands, Stands-next, event, owner_now, spent-after}
pub use Rattle.vms_core.proofs.WithChange.{with_carried-nothing, with_change-steps}
pub use Rattle.vms_core.proofs.Settings.{acknowledged_after, acknowledged_at-newest, cpu_at-newest, cpu_at-state_after}
pub use Rattle.vms_core.proofs.Settings.{mark_after, mark_at-newest, mark_sets_at-newest, sets-newest, sets-state_after}
pub use Rattle.vms_core.proofs.Settings.{threshold_at-newest, threshold_at-state_after}
pub use Rattle.vms_core.proofs.NumberChanges.{numbers-change}
pub use Rattle.vms_core.proofs.PeakBounds.{peaks-in_range}
pub use Rattle.vms_core.proofs.MarkCovers.{Covers-less, if_present-least}
pub use Rattle.vms_core.proofs.MarkNumbers.{marks-stand_between}
pub use Rattle.vms_core.proofs.LevelStates.{IsOpening-level, get_or-copies}
pub use Rattle.vms_core.proofs.LoweredLegal.{acknowledged_early_illegal, acknowledged_other_illegal, found_newest_legal}
pub use Rattle.vms_core.proofs.LoweredLegal.{found_none_legal, found_older_legal, lowered_legal, uncovered_mark_illegal}
pub use Rattle.vms_core.proofs.LoweredLegal.{uncovered_threshold_illegal}
pub use Rattle.vms_core.proofs.LiveOwners.{online-stays, owned-online}
pub use Rattle.vms_core.proofs.KnowledgeKept.{OwnerKnows-holds, control-knows_later, event-leaves, owner_in-goes_on}
pub use Rattle.vms_core.proofs.FreeCpus.{cpu-stands, settings-stand}
pub use Rattle.vms_core.proofs.Exchanges.{MayExchange-goes_on, miss-follows, put-follows, zeros-win}
pub use Rattle.vms_core.proofs.ControlSteps.{SetsAbsent-taken, SetsMark-goes_on, SetsThreshold-goes_on}
pub use Rattle.vms_core.proofs.Spending.{changes-within_sizes, owner-spends}
pub use Rattle.vms_core.proofs.CarriedNothing.{carried_by_all-none}
pub use Rattle.vms_core.proofs.SettledEnds.{IsBase-ended, values_of_item-most, within-volumes}
pub use Rattle.vms_core.proofs.GroupLists.{group_is_list}
pub use Rattle.vms_core.proofs.KeptLaws.{laws-kept, laws-kept_before}
