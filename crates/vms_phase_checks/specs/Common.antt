-- The definitions that other crates and this one's proofs cite, passed on from one place. Declares nothing.
pub use Rattle.vms_phase_checks.specs.Slots.{AreEmpty, AreLaneActs, HasSlot, lane_for, lane_in}
pub use Rattle.vms_phase_checks.specs.Kept.{AreOver, FitsSomewhere, GoesAlongLane, HasMadeLane, KeepsToLines}
pub use Rattle.vms_phase_checks.specs.Shown.{ShowsPages}
pub use Rattle.vms_phase_checks.specs.Walks.{IsAloneIn, IsDueIn, Walked}
pub use Rattle.vms_phase_checks.specs.Checks.{Checks, IsDueOf, IsEventFault, MayCheck, WalksIn}
