-- The definitions that other crates and this one's proofs cite, passed on from one place. Declares nothing.
pub use Rattle.vms_standing.specs.Pairs.{Pairs}
pub use Rattle.vms_standing.specs.Replying.{HasAnswer, HasSlot, Keeps}
pub use Rattle.vms_standing.specs.Works.{Makes}
