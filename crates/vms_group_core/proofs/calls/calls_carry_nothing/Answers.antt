-- What a call leaves its caller with.
use Rattle.vms_group_core.proofs.CallCarrying.{call-carries}
use Rattle.vms_group_core.proofs.calls.calls_carry_nothing.Goals as goal

pub returns : goal.returns
returns c = call-carries
