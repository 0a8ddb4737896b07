-- How the words of online CPUs go, and what sums over them find.
use Rattle.vms_event_core.proofs.OnlineCpus.{words-grow, all_events-most}
use Rattle.vms_event_core.proofs.SummedWords.{SumsBetween-holds}
use Rattle.vms_event_core.proofs.calls.online_words_grow.Goals as goal

pub returns : goal.returns
returns c = record { grow = words-grow; between = SumsBetween-holds; fits = all_events-most }
