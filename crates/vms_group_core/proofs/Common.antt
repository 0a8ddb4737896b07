-- For other crates too: the lemmas that they cite, passed on from one place. Declares nothing.
pub use Rattle.vms_group_core.proofs.Flags.{in_subtree-parent, parent_in}
pub use Rattle.vms_group_core.proofs.Effects.{HasShape-state_after, owner_known}
pub use Rattle.vms_group_core.proofs.Spending.{spending-known, spent_by-others}
pub use Rattle.vms_group_core.proofs.AllLaws.{beginnings-kept}
pub use Rattle.vms_group_core.proofs.CallCarrying.{call-carries, flushes-carry, takes-carry}
pub use Rattle.vms_group_core.proofs.CallSpending.{call-spends}
