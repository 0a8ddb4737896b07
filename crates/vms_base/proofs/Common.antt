-- For other crates too: the lemmas that they cite, passed on from one place. Declares nothing.
pub use Rattle.vms_base.proofs.Zones.{node-le, rank_of-injective}
pub use Rattle.vms_base.proofs.Ranks.{increasing-from_steps, rises}
pub use Rattle.vms_base.proofs.Doubled.{not-HasDoubled}
pub use Rattle.vms_base.proofs.Cells.{cell-cpu, cell-injective, cell-lt, cell-thing}
pub use Rattle.vms_base.proofs.Counts.{IsCounter-member, counter_at-place, counter_at-position, counter_at-whole}
pub use Rattle.vms_base.proofs.Counts.{counter_count-most, group_count-most, group_count-whole, group_of-lt, item_of-lt}
pub use Rattle.vms_base.proofs.Counts.{nodes_most-holds, place_count-most, place_of-first_of_group, place_of-lt}
pub use Rattle.vms_base.proofs.Counts.{position_of-lt}
