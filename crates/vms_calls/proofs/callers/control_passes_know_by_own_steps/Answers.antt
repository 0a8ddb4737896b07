use Rattle.vms_calls.proofs.ControlKnowledge.{KnowsByOwnSteps-holds}
use Rattle.vms_calls.proofs.callers.control_passes_know_by_own_steps.Goals as goal

pub returns : goal.returns
returns c = KnowsByOwnSteps-holds
