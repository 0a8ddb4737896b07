-- The law is the lemma of Written.
use Rattle.vms_header.proofs.Written.{read_header-writable}
use Rattle.vms_header.proofs.parsing.headers_are_writable.Goals as goal

pub returns : goal.returns
returns c = read_header-writable
