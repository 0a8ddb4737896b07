-- The law is the lemma of HeadersRead.
use Rattle.vms_header.proofs.HeadersRead.{HeadersReadBack-holds}
use Rattle.vms_header.proofs.reading_back.headers_read_back.Goals as goal

pub returns : goal.returns
returns c = HeadersReadBack-holds
