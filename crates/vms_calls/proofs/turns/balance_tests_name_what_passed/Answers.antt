use Rattle.vms_calls.proofs.PassedZones.{BalanceNamesZone-holds}
use Rattle.vms_calls.proofs.turns.balance_tests_name_what_passed.Goals as goal

pub returns : goal.returns
returns c = BalanceNamesZone-holds
