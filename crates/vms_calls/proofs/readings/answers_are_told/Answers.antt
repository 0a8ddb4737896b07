use Rattle.vms_calls.proofs.LookReadings.{place_value-told, system_value-told, snapshot-told, test-told}
use Rattle.vms_calls.proofs.TurnReadings.{order_test-told, balance-told}
use Rattle.vms_calls.proofs.readings.answers_are_told.Goals as goal

pub returns : goal.returns
returns c = record {
  place_value = place_value-told;
  system_value = system_value-told;
  snapshot = snapshot-told;
  test = test-told;
  order = order_test-told;
  balance = balance-told;
}
