-- The definitions that other crates and this one's proofs cite, passed on from one place. Declares nothing.
pub use Rattle.vms_total_laws.specs.PlainSums.{AreLinesOf, AreNumbered, adds_by, adds_by_all, amount_added, answer_at}
pub use Rattle.vms_total_laws.specs.PlainSums.{counts_by, counts_by_all, phases_among, says_made}
pub use Rattle.vms_total_laws.specs.Moves.{CountersMoveBy, EventsMoveBy, EventsMoveByAll, PagesMoveBy, PagesMoveByAll}
pub use Rattle.vms_total_laws.specs.WayAnswers.{answers_on}
pub use Rattle.vms_total_laws.specs.ReportedSums.{SumsAreTotals}
