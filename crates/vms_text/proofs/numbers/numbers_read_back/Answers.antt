use Rattle.vms_text.proofs.NumberLaws.{unsigned_of-reads, signed_of-reads}
use Rattle.vms_text.proofs.numbers.numbers_read_back.Goals as goal

pub returns : goal.returns
returns c = record { unsigned = unsigned_of-reads; signed = signed_of-reads }
