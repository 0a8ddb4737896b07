-- For other crates too: the lemmas that they cite, passed on from one place. Declares nothing.
pub use Rattle.vms_seats.proofs.BegunPasses.{begun-keeps}
pub use Rattle.vms_seats.proofs.MadeCalls.{calls-both, calls-live, calls-next, calls-none}
pub use Rattle.vms_seats.proofs.TwoPasses.{first-seen, free-first, free-second, is_of-begun, is_of-later, own-begun}
pub use Rattle.vms_seats.proofs.TwoPasses.{own-ended, sees_more-both, sees_more-made, sees_more-same, two-ended}
pub use Rattle.vms_seats.proofs.ThreePasses.{free-control, three-begun, three-ended}
