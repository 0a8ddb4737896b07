-- The goal was that a shift brings the byte to the lowest place.
use Rattle.vms_words.proofs.PackedEntries.{byte-shifted}
use Rattle.vms_words.proofs.lists.byte_of.Goals as goal

pub returns : goal.returns
returns c = byte-shifted c.args.word c.args.position c.requires
