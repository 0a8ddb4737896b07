-- For other crates too: the lemmas that they cite, passed on from one place. Declares nothing.
pub use Rattle.vms_line.proofs.LinesRead.{LinesReadBack-holds}
pub use Rattle.vms_line.proofs.LinesKnown.{read_line-known}
