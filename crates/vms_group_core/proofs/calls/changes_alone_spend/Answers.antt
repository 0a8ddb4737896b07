-- What each call spends.
use Rattle.vms_group_core.proofs.CallSpending.{call-spends, calls-spend_nothing, others-spend}
use Rattle.vms_group_core.proofs.calls.changes_alone_spend.Goals as goal

pub returns : goal.returns
returns c = record {
  call = call-spends;
  nothing = calls-spend_nothing;
  others = others-spend;
}
