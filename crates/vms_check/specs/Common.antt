-- The definitions that other crates and this one's proofs cite, passed on from one place. Declares nothing.
pub use Rattle.vms_check.specs.Checking.{accepted_line, check, checked_end, checked_line, checking, shown_by_check}
pub use Rattle.vms_check.specs.Laws.{ChecksAgain}
