-- The goal was that word 0 tells eight zeros.
use Rattle.vms_words.proofs.PackedEntries.{read-zeros}
use Rattle.vms_words.proofs.lists.PackedDiffs.zeros.Goals as goal

pub returns : goal.returns
returns c = read-zeros
