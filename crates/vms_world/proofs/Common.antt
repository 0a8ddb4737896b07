-- For other crates too: the lemmas that they cite, passed on from one place. Declares nothing.
pub use Rattle.vms_world.proofs.EventActs.{act-counts, alone-no_burial, call-known, control-counts_none}
pub use Rattle.vms_world.proofs.EventActs.{control-spends_none, events-no_burial, events-no_counters, events-no_pages}
pub use Rattle.vms_world.proofs.EventActs.{folds-burial, spent_on_event-call, spent_on_event-control, sum-known}
pub use Rattle.vms_world.proofs.ListedReads.{get_or-listed_by_cpu, is_listed, is_listed_by_cpu}
pub use Rattle.vms_world.proofs.TakenDown.{IsWorldOf-taken_down}
pub use Rattle.vms_world.proofs.Flushes.{IsWorldOf-flushed, if-sum}
pub use Rattle.vms_world.proofs.PlaceThresholds.{AreThresholds}
pub use Rattle.vms_world.proofs.RefreshedStates.{shaped-refreshed, threshold_most}
pub use Rattle.vms_world.proofs.Answers.{count_online-least, count_online-most}
pub use Rattle.vms_world.proofs.BroughtUp.{IsWorldOf-brought_up, online-least, online-most}
pub use Rattle.vms_world.proofs.Crossings.{IsWorldOf-crossed, total-crossed}
pub use Rattle.vms_world.proofs.FirstWorlds.{IsWorldOf-start, MayRefresh-bare, base_of-most, count_online-replicate}
pub use Rattle.vms_world.proofs.FirstWorlds.{diff-bare, online-bare}
pub use Rattle.vms_world.proofs.PhaseEnds.{IsWorldOf-left_by, StayWithinVolumes-lines}
pub use Rattle.vms_world.proofs.ActCalls.{IsKnownCall, call-no_events, call-no_pages, known-call, spent-by_call}
pub use Rattle.vms_world.proofs.ActCalls.{spent-call}
