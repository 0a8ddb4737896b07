-- The definitions that other crates and this one's proofs cite, passed on from one place. Declares nothing.
pub use Rattle.vms_group_report.specs.Reports.{group_lines, group_words, pending_under}
