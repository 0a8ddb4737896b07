-- The law is the lemma of HeaderSettled.
use Rattle.vms_header.proofs.HeaderSettled.{read_header-settled}
use Rattle.vms_header.proofs.parsing.header_is_settled.Goals as goal

pub returns : goal.returns
returns c = read_header-settled
