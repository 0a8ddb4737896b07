-- The definitions that other crates and this one's proofs cite, passed on from one place. Declares nothing.
pub use Rattle.vms_own_acts.specs.Rules.{IsFunction, IsExactly, formula-is_function}
pub use Rattle.vms_own_acts.specs.Histories.{IsHistoryFor}
pub use Rattle.vms_own_acts.specs.InRow.{MakesInRow}
pub use Rattle.vms_own_acts.specs.Along.{Along}
pub use Rattle.vms_own_acts.specs.Ways.{IsUnderWay}
