-- What each call carries.
use Rattle.vms_event_core.proofs.CallCarrying.{call-carries, all_events-carry, fold_events-carry}
use Rattle.vms_event_core.proofs.calls.calls_carry_nothing.Goals as goal

pub returns : goal.returns
returns c = record { call = call-carries; sum = all_events-carry; fold = fold_events-carry }
