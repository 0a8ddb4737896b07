-- For other crates too: the lemmas that they cite, passed on from one place. Declares nothing.
pub use Rattle.vms_event_core.proofs.StateWords.{HasShape-state_after, owner_known, word_at-state_after}
pub use Rattle.vms_event_core.proofs.Spending.{spending-known, spent_by-others}
pub use Rattle.vms_event_core.proofs.OnlineCpus.{all_events-most, words-grow}
pub use Rattle.vms_event_core.proofs.AllLaws.{beginnings-kept}
pub use Rattle.vms_event_core.proofs.Endings.{begins-paid}
pub use Rattle.vms_event_core.proofs.CallSpending.{call-counts}
