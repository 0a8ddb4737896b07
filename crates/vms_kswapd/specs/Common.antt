-- The definitions that other crates and this one's proofs cite, passed on from one place. Declares nothing.
pub use Rattle.vms_kswapd.specs.Seeking.{HasSought, Seeks}
pub use Rattle.vms_kswapd.specs.Passing.{CountsBlocks, FoundBlock, NamesPassed, YesPassed}
pub use Rattle.vms_kswapd.specs.LeftThresholds.{LeavesRule, StandsByRule}
