-- The definitions that other crates and this one's proofs cite, passed on from one place. Declares nothing.
pub use Rattle.vms_event.specs.SharedWords.{AreMadeFor, begins_it, ends_it, event_place, told}
pub use Rattle.vms_event.specs.CpuPasses.{CpuPass, HasRoomFor, HoldsSpending, IsCpuPass, SpendsNothing, volume_after}
pub use Rattle.vms_event.specs.ControlPasses.{IsIdleControl, MovesNothing}
