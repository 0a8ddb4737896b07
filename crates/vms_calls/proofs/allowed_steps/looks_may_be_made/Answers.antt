use Rattle.vms_calls.proofs.LookRuns.{place_value-may, system_value-may, snapshot-may, test-may}
use Rattle.vms_calls.proofs.TurnRuns.{order-may, balance-may}
use Rattle.vms_calls.proofs.allowed_steps.looks_may_be_made.Goals as goal

pub returns : goal.returns
returns c = record {
  place_value = place_value-may;
  system_value = system_value-may;
  snapshot = snapshot-may;
  test = test-may;
  order = order-may;
  balance = balance-may;
}
