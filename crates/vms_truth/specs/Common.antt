-- The definitions that other crates and this one's proofs cite, passed on from one place. Declares nothing.
pub use Rattle.vms_truth.specs.LineMoments.{FollowInLanes, Moments, lines_above}
pub use Rattle.vms_truth.specs.PhaseTruth.{LinesAreTrue}
pub use Rattle.vms_truth.specs.WorldTruth.{NumbersAreNear, WaysKeepWorlds, WaysStayNear, worlds_on}
