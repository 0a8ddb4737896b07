-- The definitions that other crates and this one's proofs cite, passed on from one place. Declares nothing.
pub use Rattle.vms_spending_laws.specs.Spending.{SpendAsAnswered, SpendInAll, sizes_by, sizes_by_all}
pub use Rattle.vms_spending_laws.specs.LeftWorlds.{CoverSpending, left_with, spent_volumes}
