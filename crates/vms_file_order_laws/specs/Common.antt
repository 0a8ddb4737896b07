-- The definitions that other crates and this one's proofs cite, passed on from one place. Declares nothing.
pub use Rattle.vms_file_order_laws.specs.Rules.{AnswersOnce}
