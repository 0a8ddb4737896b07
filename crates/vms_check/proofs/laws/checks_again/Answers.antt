use Rattle.vms_check.proofs.WrittenAgain.{ChecksAgain-holds}
use Rattle.vms_check.proofs.laws.checks_again.Goals as goal

pub returns : goal.returns
returns c = ChecksAgain-holds
