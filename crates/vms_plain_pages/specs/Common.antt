-- The definitions that other crates and this one's proofs cite, passed on from one place. Declares nothing.
pub use Rattle.vms_plain_pages.specs.StateSteps.{effect_by, pages_are_by_state, pages_by_state}
pub use Rattle.vms_plain_pages.specs.Alone.{CallLeadsAlone, IsSmallState}
pub use Rattle.vms_plain_pages.specs.Values.{online_diff, snapshot_of}
pub use Rattle.vms_plain_pages.specs.Verdicts.{free_of, free_value, takes_snapshot, verdict_at}
pub use Rattle.vms_plain_pages.specs.Orders.{area_found, block_found, has_block, order_verdict_at, zone_passes}
pub use Rattle.vms_plain_pages.specs.Balances.{balance_at, balance_of}
pub use Rattle.vms_plain_pages.specs.Folding.{FoldsCpu}
pub use Rattle.vms_plain_pages.specs.FoldParts.{AddsSums, AreSums, FoldsCounters, FoldsGroups, FoldsPlace, IsOutside}
pub use Rattle.vms_plain_pages.specs.FoldParts.{acknowledged_of_place, part_of_item, sum_at}
