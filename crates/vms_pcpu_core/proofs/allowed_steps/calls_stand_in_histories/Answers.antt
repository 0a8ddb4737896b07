use Rattle.vms_pcpu_core.proofs.CallsWithin.{MadeWithin-holds, made-by_living}
use Rattle.vms_pcpu_core.proofs.allowed_steps.calls_stand_in_histories.Goals as goal

pub returns : goal.returns
returns c = record { within = MadeWithin-holds; by_living = made-by_living }
