-- For other crates too: the lemmas that they cite, passed on from one place. Declares nothing.
pub use Rattle.vms_header.proofs.HeaderSteps.{lines_of-sentences}
pub use Rattle.vms_header.proofs.HeadersRead.{HeadersReadBack-holds, header_words-few}
pub use Rattle.vms_header.proofs.HeaderSettled.{read_header-settled}
pub use Rattle.vms_header.proofs.Written.{read_header-writable}
