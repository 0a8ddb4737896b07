use Rattle.vms_check.specs.Common.{checking}
use Rattle.vms_command.proofs.Common.{WritesTexts-holds}
use Rattle.vms_check.proofs.laws.writes_its_text.Goals as goal

pub returns : goal.returns
returns c = WritesTexts-holds checking
