-- For other crates too: the lemmas that they cite, passed on from one place. Declares nothing.
pub use Rattle.vms_group_lines.proofs.HeadersSettled.{read_group_header-settled, read_group_header-valid}
pub use Rattle.vms_group_lines.proofs.LinesKnown.{read_group_line-known}
pub use Rattle.vms_group_lines.proofs.Volumes.{judged_group-fits}
