-- For other crates too: the lemmas that they cite, passed on from one place. Declares nothing.
pub use Rattle.vms_lane.proofs.CountedLanes.{lane_place-same, place-below}
pub use Rattle.vms_lane.proofs.LaneActs.{MakeLines-world, acts-fresh, acts-later, acts_in-lane_items}
pub use Rattle.vms_lane.proofs.FittingLanes.{BuryTheDead-world}
pub use Rattle.vms_lane.proofs.FreshControl.{MayControl-fresh}
