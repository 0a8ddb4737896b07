-- For other crates too: the lemmas that they cite, passed on from one place. Declares nothing.
pub use Rattle.vms_calls.proofs.PushedLists.{each-pushed, length-pushed}
pub use Rattle.vms_calls.proofs.ZonesOn.{on-false, on-true, zones-more, zones-same, zones_so_far}
pub use Rattle.vms_calls.proofs.RatingReadings.{burial-told, node-told}
pub use Rattle.vms_calls.proofs.RatingCovers.{cover_mark-covers}
pub use Rattle.vms_calls.proofs.MayBegin.{call-whole}
pub use Rattle.vms_calls.proofs.ChoiceRanges.{GivesBoth, normal-gives, pressure-gives}
pub use Rattle.vms_calls.proofs.ControlCalls.{node-may, rating-may, refresh-may}
pub use Rattle.vms_calls.proofs.CallSteps.{Each, OfFolds, OfLooks, OfRatings, balance-each, each-append, fold-each}
pub use Rattle.vms_calls.proofs.CallSteps.{node-each, refresh-each, snapshot-each, states-each, test-each, turn-each}
pub use Rattle.vms_calls.proofs.CallerLaws.{IsStill, burial-leaves, change-leaves, fold-leaves, looks-still}
pub use Rattle.vms_calls.proofs.CallerLaws.{ratings-still, still-leaves}
pub use Rattle.vms_calls.proofs.TurnReadings.{turn-told}
pub use Rattle.vms_calls.proofs.TurnThresholds.{LeavesNormal-holds, LeavesPressure-holds}
pub use Rattle.vms_calls.proofs.OnlineFound.{burial-online, node-online, turn-online}
pub use Rattle.vms_calls.proofs.ZonesUpTo.{find-fails, find-first, find-other, is_one, is_one-told, zones_below}
pub use Rattle.vms_calls.proofs.ZonesUpTo.{zones_below-known, zones_below-next}
