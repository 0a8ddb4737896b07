-- What each call spends.
use Rattle.vms_event_core.proofs.CallSpending.{call-spends, calls-spend_nothing, all_events-spend, fold_events-spend}
use Rattle.vms_event_core.proofs.CallSpending.{others-spend}
use Rattle.vms_event_core.proofs.calls.counts_alone_spend.Goals as goal

pub returns : goal.returns
returns c = record {
  call = call-spends;
  nothing = calls-spend_nothing;
  sum = all_events-spend;
  fold = fold_events-spend;
  others = others-spend;
}
