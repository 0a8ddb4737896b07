-- What each call answered is read, the sum over any CPUs, and what a fold found.
use Rattle.vms_event_core.proofs.CallReading.{call-read, all_events-read, fold_events-read}
use Rattle.vms_event_core.proofs.calls.answers_are_read.Goals as goal

pub returns : goal.returns
returns c = record { call = call-read; sum = all_events-read; found = fold_events-read }
