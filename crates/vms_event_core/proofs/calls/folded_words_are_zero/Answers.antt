-- A 0 of a CPU that is not online stays, and a fold leaves zeros.
use Rattle.vms_event_core.proofs.FoldedWords.{folded-zeros}
use Rattle.vms_event_core.proofs.OfflineCpus.{zero_word-stays}
use Rattle.vms_event_core.proofs.calls.folded_words_are_zero.Goals as goal

pub returns : goal.returns
returns c = record { stay = zero_word-stays; folded = folded-zeros }
