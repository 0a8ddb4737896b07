-- For other crates too: the lemmas that they cite, passed on from one place. Declares nothing.
pub use Rattle.vms_file_order.proofs.LaneLists.{HasPlace-among, StandOnce-lanes, among-lanes, is_among-append}
pub use Rattle.vms_file_order.proofs.LaneLists.{is_lane-same, is_lane-self, is_lane-sym, lane_at-pass_of}
pub use Rattle.vms_file_order.proofs.LaneLists.{lines-among_lanes, owner_of-injective, pass_of-lane_at, pass_of-least}
pub use Rattle.vms_file_order.proofs.Openings.{HasPass-opening, StandsOpen-opening, begun-begins, lives-only}
pub use Rattle.vms_file_order.proofs.Openings.{own-opening, own-opening_others, owner-lane}
pub use Rattle.vms_file_order.proofs.Closings.{IsComplete-closing, begun-ends, state_after-closing}
pub use Rattle.vms_file_order.proofs.FollowedLines.{GoesOnWithLine-none, HasLanes-closing, HasLanes-followed}
pub use Rattle.vms_file_order.proofs.FollowedLines.{MakesActs-followed, acts_of-followed}
pub use Rattle.vms_file_order.proofs.PageVolumes.{pages-spend_lines}
pub use Rattle.vms_file_order.proofs.EventVolumes.{events-spend_lines}
pub use Rattle.vms_file_order.proofs.PcpuVolumes.{pcpu-spend_lines}
pub use Rattle.vms_file_order.proofs.PhaseVolumes.{FitVolumes-fitting}
pub use Rattle.vms_file_order.proofs.OpenPhases.{EndsIn-closing, IsFileOrderPhase-closing, IsOpenPhase-line}
pub use Rattle.vms_file_order.proofs.OpenPhases.{IsOpenPhase-opening}
pub use Rattle.vms_file_order.proofs.SpentLines.{SpendTheirLines-opened}
pub use Rattle.vms_file_order.proofs.WorldStarts.{IsStartOf-first}
pub use Rattle.vms_file_order.proofs.BoundaryStarts.{IsStartOf-crossed, MayCross-allowed}
pub use Rattle.vms_file_order.proofs.FittingFronts.{Fits-front, known-next}
pub use Rattle.vms_file_order.proofs.FittingLines.{MayFollow-opened, StayWithinVolumes-front, own-size}
pub use Rattle.vms_file_order.proofs.FittingOpenings.{owners-online}
pub use Rattle.vms_file_order.proofs.JudgedLines.{Fits-judged, start_at_end-lines}
pub use Rattle.vms_file_order.proofs.MoreAnswers.{Buries-more, Includes, IsTurn-more, SetsNormal-more}
pub use Rattle.vms_file_order.proofs.MoreAnswers.{SetsPressure-more}
pub use Rattle.vms_file_order.proofs.MorePhases.{IsFileOrderPhase-more, PageSteps-more}
pub use Rattle.vms_file_order.proofs.FittingCalls.{fits-call}
