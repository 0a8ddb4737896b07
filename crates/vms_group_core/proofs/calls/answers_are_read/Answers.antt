-- The answer of each call.
use Rattle.vms_group_core.proofs.CallReading.{call-read}
use Rattle.vms_group_core.proofs.calls.answers_are_read.Goals as goal

pub returns : goal.returns
returns c = call-read
